-- `Near x v r`: x is v but for an offset of at most r.
use Rattle.std.specs.Prelude.{◌≡◌}
use Rattle.std.proofs.Common.{sym, ◌∙◌, ap, subst}
use Rattle.rational.specs.Rational.{ℚ, ◌+ℚ◌, neg_ℚ, 0ℚ, ◌≤ℚ◌}
use Rattle.rational.specs.Bounds.{Within}

-- |x − v| ≤ r, by the offset x − v.
pub record Near (x v r : ℚ) : Type 0 where
  pub off : ℚ
  pub small : Within off r
  pub is : x ≡ v +ℚ off
