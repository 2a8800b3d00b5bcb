-- `forms::both_ways` meets its contract: each row is written in turn.
use Rattle.std.proofs.Common.{arith, rules, ◌∙◌, ℕ, ℤ, List, pos, ◌+◌, ◌*◌, ◌/◌, ◌%◌}
use Rattle.std.specs.Prelude.{◌+ℤ◌}
use Rattle.forms.specs.Tables.{form_of, form-place}
use Rattle.forms.specs.Filling.{writing_begins, first_on, writing_ends, copied}
use Rattle.forms.specs.Numbers.{both_table}
use Rattle.whole.specs.Write.{write-all}
use Rattle.forms.proofs.both_ways.Goals as goal

abbrev F : List ℤ → ℕ → ℤ
F q = λ (y : ℕ). form_of q (y / 36) (y / 6 % 6) (y % 6) +ℤ form_of q (y / 36) (y % 6) (y / 6 % 6)

pub loop-x-init : goal.loop-x-init
loop-x-init c = writing_begins _ 0 (F c.args.q.now) 216

pub loop-x-preserved : goal.loop-x-preserved
loop-x-preserved c =
    let x = c.loop-x.x in
    let i = c.loop-x.invariant in
    first_on _ (F c.args.q.now) 216 (x * 6) 6 ((x + 1) * 6) c.loop-x.out _ _ i (omega arith) (omega arith)
    (copied c.loop-x.out (x * 6) _ 6 _ (pos 0) _ (omega arith) (omega (arith, i.long)) (c.copy_from_slice.ensures.after ∙ c.both_row-row.ensures))
    (form-place (λ (i j k : ℕ). form_of c.args.q.now i j k +ℤ form_of c.args.q.now i k j) x)

pub returns : goal.returns
unfolding both_table
returns c =
    writing_ends _ 0 (F c.args.q.now) 216 (c.loop-x.x * 6) c.loop-x.out c.loop-x.invariant (omega arith)
    ∙ write-all _ (F c.args.q.now) (pos 0) 216 (search rules)
