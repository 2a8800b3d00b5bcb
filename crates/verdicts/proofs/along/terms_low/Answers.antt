-- `along::terms_low` meets its contract: the sum so far is that of the terms passed.
use native.Mathlib.Omega.{arith}
use mathlib.Core.Path.{◌≡◌, refl, sym, ap, ap₂, ◌∙◌}
use mathlib.Core.Bool.{Bool}
use Prim.Native.Nat.{◌≤◌}
use native.Mathlib.Nat.{le_trans}
use lib.IntN.{ℤ, pos, nat_abs, ◌+ℤ◌}
use mir.Syntax.{w64}
use mir.Val.{SFits, to_z, of_z}
use mir.Facts.{to_z-of_z}
use Rattle.std.proofs.Common.{subst}
use Rattle.whole.specs.Size.{abs_add}
use Rattle.whole.specs.Fits.{read64, got64, fits_abs}
use Rattle.whole.specs.Sum.{upto_by, upto_suc}
use Rattle.model.specs.Finish.{all_even}
use Rattle.model.specs.Operations.{least}
use Rattle.arrays.specs.Rows.{row}
use Rattle.verdicts.specs.Along.{row_dot, row_bound, least_sum, least_size, grown}
use Rattle.verdicts.proofs.along.terms_low.Goals as goal
use Rattle.verdicts.proofs.along.terms_low.Goals.{After-least-sum}

module _ (s : After-least-sum) where
  abbrev so_far : ℤ
  so_far =
      least_sum s.args.a.now s.args.s.now.exponents s.args.s.now.coefficients s.args.s.now.factors
      s.args.s.now.dimension s.loop-t.t

  abbrev evenness : Bool
  evenness = all_even (row 12 0 s.args.s.now.exponents s.loop-t.t s.args.s.now.factors)

  abbrev along : ℤ
  along = row_dot s.args.a.now s.args.s.now.coefficients s.loop-t.t s.args.s.now.dimension

  sum_is : to_z w64 s.loop-t.sum-bits ≡ so_far
  sum_is = s.loop-t.invariant.1

  least_is : to_z w64 (of_z w64 s.least-sum.result) ≡ least evenness along
  least_is =
      got64 (s.least-sum.ensures ∙ ap₂ least s.even_row-even.ensures
      (got64 s.dot.ensures.0 s.dot.type_inv))
      s.least-sum.type_inv

  small : nat_abs (least evenness along) ≤ row_bound
  small = le_trans (least_size evenness along) (omega (arith, ap nat_abs s.dot.ensures.0, s.dot.ensures.1))

  more_fits : SFits w64 (so_far +ℤ least evenness along)
  more_fits = fits_abs (omega (arith, abs_add so_far (least evenness along), small))

pub loop-t-init : goal.loop-t-init
unfolding upto_by
loop-t-init c = (omega arith, refl, omega arith)

pub least-sum-requires : goal.least-sum-requires
least-sum-requires c = rw (read64 c.dot.result c.dot.type_inv) (omega (arith, c.dot.ensures.1))

pub overflow_add-sum : goal.overflow_add-sum
overflow_add-sum c = let s = (goal.at.overflow_add-sum c).After-least-sum in subst (SFits w64) (sym (ap₂ ◌+ℤ◌ (sum_is s) (least_is s))) (more_fits s)

pub loop-t-preserved : goal.loop-t-preserved
loop-t-preserved c =
    let s = (goal.at.loop-t-preserved c).After-least-sum in (
      omega arith,
      ap (λ z. to_z w64 (of_z w64 z)) (ap₂ ◌+ℤ◌ (sum_is s) (least_is s)) ∙ to_z-of_z (more_fits s) ∙ sym (upto_suc (pos 0) ◌+ℤ◌ _ _),
      grown _ _ _ c.loop-t.invariant.2 (small s),
    )

pub returns : goal.returns
returns c =
    let l = c.loop-t in
    let a = c.args in
    let e : l.t ≡ a.s.now.terms = omega arith in
    let sum = least_sum a.a.now a.s.now.exponents a.s.now.coefficients a.s.now.factors a.s.now.dimension in
    let is = l.invariant.1 in
    (is ∙ ap sum e, rw is (omega arith))
