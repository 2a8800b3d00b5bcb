-- `along::least` meets its contract: the smaller of 0 and g, or what is as far below 0.
use Rattle.std.proofs.Common.{◌≡◌, sym, ap, ◌∙◌, arith, nat_abs, pos, ◌-ℤ◌, to_z, of_z, w64, to_z-of_z}
use Rattle.std.proofs.lemmas.Int.{ints}
use mir.Val.{SFits}
use lib.IntN.{neg_ℤ}
use Rattle.std.specs.Int.{int_min}
use Rattle.whole.specs.Fits.{fits_abs, got64}
use Rattle.whole.specs.Size.{abs_neg}
use Rattle.model.specs.Operations.{least}
use Rattle.verdicts.specs.Along.{least_even}
use Rattle.verdicts.proofs.along.least.Goals as goal

pub returns-then-even : goal.returns-then-even
returns-then-even c =
    got64 (c.min.ensures.value ∙ ap (λ x. int_min x (pos 0)) (to_z-of_z c.ranges.g) ∙ least_even c.args.g) c.min.type_inv
    ∙ ap (λ b. least b c.args.g) (sym c.if-even.true)

pub returns-else-even : goal.returns-else-even
unfolding least
returns-else-even c =
    let g = c.args.g in
    let size : to_z w64 (of_z w64 c.abs.result) ≡ pos (nat_abs g) =
    got64 (c.abs.ensures.value ∙ ap (λ x. pos (nat_abs x)) (to_z-of_z c.ranges.g)) c.abs.type_inv in
    let below : pos 0 -ℤ pos (nat_abs g) ≡ neg_ℤ (pos (nat_abs g)) = omega (arith, ints) in
    let fits : SFits w64 (neg_ℤ (pos (nat_abs g))) = fits_abs (omega (arith, abs_neg (pos (nat_abs g)), c.requires)) in
    ap (λ z. to_z w64 (of_z w64 z)) (ap (λ z. pos 0 -ℤ z) size ∙ below) ∙ to_z-of_z fits ∙ ap (λ b. least b g) (sym c.if-even.false)
