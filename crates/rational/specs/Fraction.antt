-- Fractions of natural numbers: when two are the same number, their sum, product and negative as at school, and that these keep `Same`.
-- `Rational` makes the numbers of them.
use Rattle.std.specs.Prelude.{◌≡◌, refl, Bool, true, false, ℕ, zero, suc, ◌+◌, ◌*◌, ◌<◌, T, leb, ℤ, pos, negsuc}
use Rattle.std.proofs.Common.{ap, sym, arith, mul-le-mul_right, le_of_mul-le-mul_right, leb→le, le→leb}

-- The fraction (up − down) / den: naturals above the line, so that one law of arithmetic serves both signs.
pub record Fraction : Type 0 where
  pub up : ℕ
  pub down : ℕ
  pub den : ℕ
  pub positive : 0 < den

-- Two fractions are the same number if the cross products are equal: (up − down)·den' = (up' − down')·den, with no difference in it.
abbrev pub Same : Fraction → Fraction → Type 0
Same x y = x.up * y.den + y.down * x.den ≡ y.up * x.den + x.down * y.den

-- The part of a whole number above zero.
abbrev pub above : ℤ → ℕ
above (pos n) = n
above (negsuc n) = 0

-- The part of a whole number below zero, without its sign.
abbrev pub below : ℤ → ℕ
below (pos n) = 0
below (negsuc n) = suc n

-- A denominator: 0 counts as 1.
abbrev pub denominator : ℕ → ℕ
denominator zero = 1
denominator (suc d) = suc d

pub denominator_positive : (d : ℕ) → 0 < denominator d
denominator_positive zero = omega arith
denominator_positive (suc d) = omega arith

-- z / d.
abbrev pub fraction : ℤ → ℕ → Fraction
fraction z d = record { up = above z; down = below z; den = denominator d; positive = denominator_positive d }

pub product_positive : (m n : ℕ) → 0 < m → 0 < n → 0 < m * n
product_positive (suc m) (suc n) h k = omega arith
product_positive zero n h k = elim h [ ]
product_positive (suc m) zero h k = elim k [ ]

-- x + y, over the product of the denominators.
unfoldable pub add : Fraction → Fraction → Fraction
add x y = record {
  up = x.up * y.den + y.up * x.den;
  down = x.down * y.den + y.down * x.den;
  den = x.den * y.den;
  positive = product_positive x.den y.den x.positive y.positive;
}

-- x · y: the products of equal signs go up, those of unequal signs down.
unfoldable pub mul : Fraction → Fraction → Fraction
mul x y = record {
  up = x.up * y.up + x.down * y.down;
  down = x.up * y.down + x.down * y.up;
  den = x.den * y.den;
  positive = product_positive x.den y.den x.positive y.positive;
}

-- − x: up and down change places.
unfoldable pub neg : Fraction → Fraction
neg x = record { up = x.down; down = x.up; den = x.den; positive = x.positive }

-- Not negative: down ≤ up.
abbrev pub upward : Fraction → Bool
upward x = leb x.down x.up

-- ---- they keep `Same`

pub add_left : (x y z : Fraction) → Same x y → Same (add x z) (add y z)
unfolding add
add_left x y z h = omega (arith, ap (λ (t : ℕ). t * (z.den * z.den)) h)

pub add_right : (z x y : Fraction) → Same x y → Same (add z x) (add z y)
unfolding add
add_right z x y h = omega (arith, ap (λ (t : ℕ). t * (z.den * z.den)) h)

pub mul_left : (x y z : Fraction) → Same x y → Same (mul x z) (mul y z)
unfolding mul
mul_left x y z h = omega (arith, ap (λ (t : ℕ). t * (z.up * z.den)) h, ap (λ (t : ℕ). t * (z.down * z.den)) h)

pub mul_right : (z x y : Fraction) → Same x y → Same (mul z x) (mul z y)
unfolding mul
mul_right z x y h = omega (arith, ap (λ (t : ℕ). t * (z.up * z.den)) h, ap (λ (t : ℕ). t * (z.down * z.den)) h)

pub neg_same : (x y : Fraction) → Same x y → Same (neg x) (neg y)
unfolding neg
neg_same x y h = omega arith

still-upward : (x y : Fraction) → Same x y → T (upward x) → T (upward y)
still-upward x y h t = le→leb y.down y.up (le_of_mul-le-mul_right {k = x.den}
    (omega (arith, mul-le-mul_right y.den (leb→le x.down x.up t))) x.positive)

-- Two tests that pass together are equal.
pub same_test : (c d : Bool) → (T c → T d) → (T d → T c) → c ≡ d
same_test true true f g = refl
same_test true false f g = absurd (f tt)
same_test false true f g = absurd (g tt)
same_test false false f g = refl

pub upward-same : (x y : Fraction) → Same x y → upward x ≡ upward y
upward-same x y h = same_test (upward x) (upward y) (still-upward x y h) (still-upward y x (sym h))
