-- `columns::add_row` meets its contract: both ends of the coordinates passed are moved.
use Rattle.std.specs.Prelude.{◌≡◌, ℤ, ◌≤◌, true, false, nat_abs}
use Rattle.std.proofs.Common.{sym, ap, subst, ◌∙◌, arith, rules, to_z, of_z, w32, w64}
use borrow.Author.Count.{below_more}
use mir.Val.{SFits}
use Rattle.whole.specs.Fits.{got64, abs_fits}
use Rattle.whole.specs.Write.{write, write_none, write-next}
use Rattle.model.specs.Set.{at}
use Rattle.model.specs.Operations.{least, greatest}
use Rattle.verdicts.specs.Ends.{added, summed, fitting, landed, all-added}
use Rattle.verdicts.proofs.columns.add_row.Goals as goal
use Rattle.verdicts.proofs.columns.add_row.Goals.{After-from-g}

-- the number of the row
module _ (s : After-from-g) where
  abbrev number : ℤ
  number = at s.args.row.now s.loop-i.i

  number_is : to_z w64 (of_z w64 s.from-g.result) ≡ number
  number_is = let is : s.from-g.result ≡ number = search rules in got64 is s.from-g.type_inv

  number_small : nat_abs number ≤ 2147483648
  number_small = let fits : SFits w32 number = search rules in abs_fits {w = w32} {z = number} fits

pub loop-i-init : goal.loop-i-init
loop-i-init c = (sym (write_none _ _ _), sym (write_none _ _ _), λ k l. absurd (omega arith))

pub least-requires : goal.least-requires
least-requires c = rw (number_is c) (omega (arith, number_small c))

pub overflow_add-low : goal.overflow_add-low
overflow_add-low c =
    let n = (goal.at.overflow_add-low c).After-from-g in
    let i = c.loop-i.i in
    subst (SFits w64)
    (sym (summed false c.args.even c.args.row.now c.args.low.now i c.loop-i.invariant.0 (c.requires.1 i) (number_small n)
    (c.least.ensures ∙ ap (least c.args.even) (number_is n))))
    (fitting false c.args.even c.args.row.now c.args.low.now i (c.requires.1 i) (number_small n))

pub greatest-requires : goal.greatest-requires
greatest-requires c =
    let n = (goal.at.greatest-requires c).After-from-g in
    rw (number_is n) (omega (arith, number_small n))

pub overflow_add-high : goal.overflow_add-high
overflow_add-high c =
    let n = (goal.at.overflow_add-high c).After-from-g in
    let i = c.loop-i.i in
    subst (SFits w64)
    (sym (summed true c.args.even c.args.row.now c.args.high.now i c.loop-i.invariant.1 (c.requires.2 i) (number_small n)
    (c.greatest.ensures ∙ ap (greatest c.args.even) (number_is n))))
    (fitting true c.args.even c.args.row.now c.args.high.now i (c.requires.2 i) (number_small n))

pub loop-i-preserved : goal.loop-i-preserved
loop-i-preserved c =
    let n = (goal.at.loop-i-preserved c).After-from-g in
    let i = c.loop-i.i in
    let a = c.args in (
      write-next a.low.now (added false a.even a.row.now a.low.now) c.loop-i.low i _ c.loop-i.invariant.0
          (landed false a.even a.row.now a.low.now i c.loop-i.invariant.0 (c.requires.1 i) (number_small n) (c.least.ensures ∙ ap (least a.even) (number_is n))),
      write-next a.high.now (added true a.even a.row.now a.high.now) c.loop-i.high i _ c.loop-i.invariant.1
          (landed true a.even a.row.now a.high.now i c.loop-i.invariant.1 (c.requires.2 i) (number_small n) (c.greatest.ensures ∙ ap (greatest a.even) (number_is n))),
      below_more _ _ c.loop-i.invariant.2 (number_small n),
    )

pub returns : goal.returns
returns c =
    let a = c.args in
    let i = c.loop-i.invariant in
    let e : c.loop-i.i ≡ 6 = omega arith in (
      all-added false a.even a.row.now a.low.now c.told-low (i.0 ∙ ap (write a.low.now 0 _) e) (λ k l. i.2 k (omega arith)),
      all-added true a.even a.row.now a.high.now c.told-high (i.1 ∙ ap (write a.high.now 0 _) e) (λ k l. i.2 k (omega arith)),
    )
