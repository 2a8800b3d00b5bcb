-- `along::lower_end` meets its contract: the four parts are those of the set, and their sum fits.
use native.Mathlib.Omega.{arith}
use mathlib.Core.Path.{◌≡◌, ap, ap₂, ◌∙◌}
use Prim.Native.Nat.{ℕ, ◌+◌, ◌^◌, ◌<◌}
use lib.IntN.{ℤ, pos, nat_abs, ◌+ℤ◌, ◌-ℤ◌}
use mir.Syntax.{w64}
use mir.Val.{SFits, to_z, of_z}
use Rattle.whole.specs.Size.{abs_add}
use Rattle.whole.specs.Fits.{read64, fits_abs}
use mir.Facts.{to_z_pos, to_z-of_z}
use Rattle.std.proofs.Common.{subst, sym}
use Rattle.verdicts.specs.Along.{subtract_size}
use Rattle.verdicts.proofs.along.lower_end.Goals as goal
use Rattle.verdicts.proofs.along.lower_end.Goals.{After-radii_reach}

-- the centre, the terms, the generators and the radii, as the calls give them
module _ (s : After-radii_reach) where
  abbrev middle : ℤ
  middle = s.dot-middle.result +ℤ s.terms_low-terms.result

  abbrev wide : ℕ
  wide = s.generators_reach.result + s.radii_reach.result

  middle_fits : SFits w64 middle
  middle_fits =
      fits_abs (omega (
        arith,
        abs_add s.dot-middle.result s.terms_low-terms.result,
        s.dot-middle.ensures.1,
        s.terms_low-terms.ensures.1,
      ))

  wide_is : to_z w64 wide ≡ pos wide
  wide_is = to_z_pos w64 (omega (arith, s.generators_reach.ensures.1, s.radii_reach.ensures.1))

  small : nat_abs (middle -ℤ pos wide) < 2 ^ 63
  small =
      omega (
        arith,
        subtract_size middle wide,
        abs_add s.dot-middle.result s.terms_low-terms.result,
        s.dot-middle.ensures.1,
        s.terms_low-terms.ensures.1,
        s.generators_reach.ensures.1,
        s.radii_reach.ensures.1,
      )

  both : to_z w64 (of_z w64 s.dot-middle.result) +ℤ to_z w64 (of_z w64 s.terms_low-terms.result) ≡ middle
  both = ap₂ ◌+ℤ◌ (read64 s.dot-middle.result s.dot-middle.type_inv) (read64 s.terms_low-terms.result s.terms_low-terms.type_inv)

  middle_is : to_z w64 (of_z w64 (to_z w64 (of_z w64 s.dot-middle.result) +ℤ to_z w64 (of_z w64 s.terms_low-terms.result))) ≡ middle
  middle_is = ap (λ z. to_z w64 (of_z w64 z)) both ∙ to_z-of_z middle_fits

  low_fits : SFits w64 (middle -ℤ pos wide)
  low_fits = fits_abs small

pub overflow_add-result : goal.overflow_add-result
overflow_add-result c = subst (SFits w64) (sym (both c)) (middle_fits c)

pub overflow_sub-result : goal.overflow_sub-result
overflow_sub-result c =
    let s = (goal.at.overflow_sub-result c).After-radii_reach in
    subst (SFits w64) (sym (ap₂ ◌-ℤ◌ (middle_is s) (wide_is s))) (low_fits s)

pub returns : goal.returns
returns c =
    let s = (goal.at.returns c).After-radii_reach in
    let is = ap (λ z. to_z w64 (of_z w64 z)) (ap₂ ◌-ℤ◌ (middle_is s) (wide_is s)) ∙ to_z-of_z (low_fits s) in (
      is ∙ ap₂ ◌-ℤ◌ (ap₂ ◌+ℤ◌ c.dot-middle.ensures.0 c.terms_low-terms.ensures.0)
          (ap pos (ap₂ ◌+◌ c.generators_reach.ensures.0 c.radii_reach.ensures.0)),
      rw is (small s),
    )
