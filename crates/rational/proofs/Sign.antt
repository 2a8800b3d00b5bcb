-- Which rationals are not negative: sums and products of such, every square, and one of a and −a.
use Rattle.std.specs.Prelude.{◌≡◌, Bool, true, false, not, ℕ, ◌+◌, ◌*◌, ◌-◌, ◌≤◌, T, pos}
use Rattle.std.proofs.Common.{◌∙◌, ap, subst, arith, mul-le-mul_right, leb→le, le→leb}
use mathlib.Core.Quot.{sound}
use mathlib.Core.HLevel.{Π_prop}
use Rattle.std.proofs.Math.Dec.{T_prop, nleb→lt}
use Rattle.rational.specs.Fraction.{add, mul, neg}
use Rattle.rational.specs.Rational.{ℚ, number, from, lifted, ◌+ℚ◌, ◌*ℚ◌, neg_ℚ, ◌over◌, ι, 0ℚ, ½, nonneg, NonNeg}
use Rattle.rational.proofs.Ring.{at₁, at₂, ℚ-set, *ℚ-neg_ℚ, neg_ℚ-*, neg_ℚ-neg_ℚ}

sum_nonneg : (a b : ℚ) → T (nonneg a) → T (nonneg b) → T (nonneg (a +ℚ b))
unfolding ℚ number ◌+ℚ◌ lifted from add nonneg
sum_nonneg = at₂ (λ a b. Π_prop λ h. Π_prop λ k. T_prop (nonneg (a +ℚ b))) (λ x y h k. omega (
  arith,
  le→leb,
  mul-le-mul_right y.den (leb→le x.down x.up h),
  mul-le-mul_right x.den (leb→le y.down y.up k),
))

pub NonNeg-+ : {a b : ℚ} → NonNeg a → NonNeg b → NonNeg (a +ℚ b)
NonNeg-+ {a} {b} h k = record { nn = sum_nonneg a b h.nn k.nn }

-- u·e + d·v ≤ u·v + d·e where d ≤ u and e ≤ v.
product_gap : (u d v e a b : ℕ) → u ≡ d + a → v ≡ e + b → u * e + d * v ≤ u * v + d * e
product_gap u d v e a b p q = rw (p, q) (omega arith)

product-nonneg : (a b : ℚ) → T (nonneg a) → T (nonneg b) → T (nonneg (a *ℚ b))
unfolding ℚ number ◌*ℚ◌ lifted from mul nonneg
product-nonneg = at₂ (λ a b. Π_prop λ h. Π_prop λ k. T_prop (nonneg (a *ℚ b))) (λ x y h k.
    let p = leb→le x.down x.up h in let q = leb→le y.down y.up k in le→leb _ _
    (product_gap x.up x.down y.up y.down (x.up - x.down) (y.up - y.down) (omega arith) (omega arith)))

pub NonNeg-* : {a b : ℚ} → NonNeg a → NonNeg b → NonNeg (a *ℚ b)
NonNeg-* {a} {b} h k = record { nn = product-nonneg a b h.nn k.nn }

-- A number that is not ≥ 0 has a negative that is.
pub negative-nonneg : (a : ℚ) → T (not (nonneg a)) → T (nonneg (neg_ℚ a))
unfolding ℚ number neg_ℚ neg nonneg
negative-nonneg = at₁ (λ a. Π_prop λ h. T_prop (nonneg (neg_ℚ a))) (λ x h. omega (arith, le→leb, nleb→lt x.down x.up h))

-- Only 0 and its negative are both ≥ 0.
pub zero_by_sign : (a : ℚ) → T (nonneg a) → T (nonneg (neg_ℚ a)) → a ≡ 0ℚ
unfolding ℚ number neg_ℚ neg nonneg ι ◌over◌
zero_by_sign = at₁ (λ a. Π_prop λ h. Π_prop λ k. ℚ-set a 0ℚ)
    (λ x h k. sound (omega (arith, leb→le x.down x.up h, leb→le x.up x.down k)))

pub NonNeg-over : (n d : ℕ) → NonNeg (pos n over d)
unfolding ℚ number ◌over◌ nonneg
NonNeg-over n d = record { nn = le→leb 0 n (omega arith) }

pub NonNeg-ι : (n : ℕ) → NonNeg (ι (pos n))
unfolding ι
NonNeg-ι n = NonNeg-over n 1

pub NonNeg-½ : NonNeg ½
unfolding ½
NonNeg-½ = NonNeg-over 1 2

-- Every square.
pub NonNeg-square : (a : ℚ) → NonNeg (a *ℚ a)
NonNeg-square a = record {
  nn = by_sign (nonneg a) (λ t. product-nonneg a a t t)
      (λ t. subst (λ x. T (nonneg x)) same (product-nonneg (neg_ℚ a) (neg_ℚ a) (negative-nonneg a t) (negative-nonneg a t)));
}
  where
    same : neg_ℚ a *ℚ neg_ℚ a ≡ a *ℚ a
    same = *ℚ-neg_ℚ (neg_ℚ a) a ∙ ap neg_ℚ (neg_ℚ-* a a) ∙ neg_ℚ-neg_ℚ (a *ℚ a)

    by_sign : (b : Bool) → (T b → T (nonneg (a *ℚ a))) → (T (not b) → T (nonneg (a *ℚ a))) → T (nonneg (a *ℚ a))
    by_sign true f g = f tt
    by_sign false f g = g tt
