-- What ℚ is: fractions with a positive denominator, equal when the cross products are, with their sum, product, negative and order.
-- Definitions only: `Pinned` (proofs/) has the theorems that pin them down. `Ring`, `Sign` and `Pinned` open them; all else goes by the laws.
use mathlib.Core.Quot.{Quot, mk, sound, lift, Quot-set, ind}
use Rattle.std.specs.Prelude.{Bool, ℕ, T, ℤ, pos}
use Rattle.std.proofs.Math.Bool.{Bool-set}
use Rattle.rational.specs.Fraction as F
use Rattle.rational.specs.Fraction.{Fraction, Same, fraction}

-- The rational numbers: two fractions are one rational number if they are the `Same`.
unfoldable pub ℚ : Type 0
ℚ = Quot Same

-- The number of a fraction.
unfoldable pub number : Fraction → ℚ
unfolding ℚ
number x = mk x

-- An operation on fractions that keeps `Same` on either side, as one on rationals.
module _ (f : Fraction → Fraction → Fraction) (l : (x y z : Fraction) → Same x y → Same (f x z) (f y z))
    (r : (z x y : Fraction) → Same x y → Same (f z x) (f z y)) where
  unfoldable pub from : Fraction → ℚ → ℚ
  unfolding ℚ
  from x = lift Quot-set (λ z. mk (f x z)) (λ y z h. sound (r x y z h))

  unfoldable pub lifted : ℚ → ℚ → ℚ
  unfolding ℚ from
  lifted a b = lift Quot-set (λ x. from x b)
      (λ x y h. ind (λ c. Quot-set (from x c) (from y c)) (λ z. sound (l x y z h)) b) a

-- The sum.
infixl 65 ◌+ℚ◌
unfoldable pub ◌+ℚ◌ : ℚ → ℚ → ℚ
◌+ℚ◌ = lifted F.add F.add_left F.add_right

-- The product.
infixl 70 ◌*ℚ◌
unfoldable pub ◌*ℚ◌ : ℚ → ℚ → ℚ
◌*ℚ◌ = lifted F.mul F.mul_left F.mul_right

-- The negative.
unfoldable pub neg_ℚ : ℚ → ℚ
unfolding ℚ
neg_ℚ = lift Quot-set (λ x. mk (F.neg x)) (λ x y h. sound (F.neg_same x y h))

-- The difference.
infixl 65 ◌-ℚ◌
abbrev pub ◌-ℚ◌ : ℚ → ℚ → ℚ
a -ℚ b = a +ℚ neg_ℚ b

-- z / d, for the d that is written; a denominator 0 counts as 1.
infix 80 ◌over◌
unfoldable pub ◌over◌ : ℤ → ℕ → ℚ
unfolding number
z over d = number (fraction z d)

-- The whole number z as a rational.
unfoldable pub ι : ℤ → ℚ
unfolding ◌over◌
ι z = z over 1

-- Zero.
abbrev pub 0ℚ : ℚ
0ℚ = ι (pos 0)

-- One.
abbrev pub 1ℚ : ℚ
1ℚ = ι (pos 1)

-- A half.
unfoldable pub ½ : ℚ
unfolding ◌over◌
½ = pos 1 over 2

-- The test for 0 ≤ a.
unfoldable pub nonneg : ℚ → Bool
unfolding ℚ
nonneg = lift Bool-set F.upward F.upward-same

-- 0 ≤ a.
pub record NonNeg (a : ℚ) : Type 0 where
  pub nn : T (nonneg a)

-- a ≤ b: the difference b − a is not negative.
infix 50 ◌≤ℚ◌
pub record ◌≤ℚ◌ (a b : ℚ) : Type 0 where
  pub le : T (nonneg (b -ℚ a))

-- a < b: not b ≤ a.
infix 50 ◌<ℚ◌
pub record ◌<ℚ◌ (a b : ℚ) : Type 0 where
  pub lt : ¬ (b ≤ℚ a)
