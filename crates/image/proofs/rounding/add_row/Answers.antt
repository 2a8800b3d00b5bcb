-- `image::rounding::add_row` meets its contract: each counter is read, grown and written in turn.
use Rattle.std.proofs.Common.{rules, arith, ◌≡◌, ◌∙◌, ap₂, ℕ, ◌+◌, get_or}
use Rattle.whole.specs.Round.{inexact}
use Rattle.whole.specs.Write.{write-all}
use Rattle.forms.specs.Tables.{row_of}
use Rattle.forms.specs.Filling.{writing_begins, first-again, writing_ends}
use Rattle.image.specs.Rounding.{inexact_small}
use Rattle.image.specs.Counting.{writing_rest}
use Rattle.image.proofs.rounding.add_row.Goals as goal
use Rattle.image.proofs.rounding.add_row.Goals.{Start, After-count_inexact}

abbrev F : Start → ℕ → ℕ
F s y = get_or s.args.out.now y 0 + inexact (row_of s.args.w.now s.args.t y)

module _ (c : After-count_inexact) where
  -- the counter still holds its first number
  held : get_or c.loop-i.out c.loop-i.i 0 ≡ get_or c.args.out.now c.loop-i.i 0
  held = writing_rest 6 (F (goal.at.After-count_inexact c).Start) _ 0 c.loop-i.i c.loop-i.out c.loop-i.invariant

  one : c.count_inexact.result ≡ inexact (row_of c.args.w.now c.args.t c.loop-i.i)
  one = search rules

pub loop-i-init : goal.loop-i-init
loop-i-init c = writing_begins _ 0 (F c) 6

pub overflow_add-count : goal.overflow_add-count
overflow_add-count c =
    let s = (goal.at.overflow_add-count c).After-count_inexact in
    let small = inexact_small (row_of c.args.w.now c.args.t c.loop-i.i) in
    record { fits = omega (arith, c.requires.2.below c.loop-i.i, held s, one s, small) }

pub loop-i-preserved : goal.loop-i-preserved
loop-i-preserved c =
    let s = (goal.at.loop-i-preserved c).After-count_inexact in
    first-again _ (F (goal.at.loop-i-preserved c).Start) 6 c.loop-i.i c.loop-i.out _ c.loop-i.invariant (omega arith) (ap₂ ◌+◌ (held s) (one s))

pub returns : goal.returns
returns c =
    let f = F (goal.at.returns c).Start in
    writing_ends _ 0 f 6 c.loop-i.i c.loop-i.out c.loop-i.invariant (omega arith) ∙ write-all c.args.out.now f 0 6 c.told-out
