-- Powers, even exponents, and numbers in [0, 1].
use Rattle.std.specs.Prelude.{◌≡◌, Bool, ℕ, zero, suc, ◌+◌, ◌/◌, ◌%◌, T, eqb}
use Rattle.std.proofs.Common.{sym, ◌∙◌, ap, subst, arith, zero-add, suc-add, eqb→eq}
use Rattle.rational.specs.Rational.{ℚ, ◌*ℚ◌, 1ℚ, NonNeg, ◌≤ℚ◌}
use Rattle.rational.specs.Bounds.{Within}

-- a to the n.
unfoldable pub power : ℚ → ℕ → ℚ
power a zero = 1ℚ
power a (suc n) = a *ℚ power a n

-- The test for an even number.
unfoldable pub even : ℕ → Bool
even e = eqb (e % 2) 0

-- x is in [0, 1].
pub record InUnit (x : ℚ) : Type 0 where
  pub low : NonNeg x
  pub high : x ≤ℚ 1ℚ
