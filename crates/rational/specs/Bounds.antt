-- `Within x r`: |x| ≤ r.
use Rattle.std.specs.Prelude.{◌≡◌, refl, ℕ, suc, ◌+◌, ◌-◌, ◌≤◌, ℤ, pos, negsuc, nat_abs}
use Rattle.std.proofs.Common.{sym, ◌∙◌, ap, subst, arith}
use Rattle.rational.specs.Rational.{ℚ, ◌+ℚ◌, ◌*ℚ◌, neg_ℚ, ι, 0ℚ, 1ℚ, ½, NonNeg, ◌≤ℚ◌}

-- |x| ≤ r.
pub record Within (x r : ℚ) : Type 0 where
  pub hi : x ≤ℚ r
  pub lo : neg_ℚ r ≤ℚ x
