-- ℚ is a commutative ring: each law a path, proved at fractions. `simp ring` closes an equation that has no difference in it.
use Rattle.std.specs.Prelude.{◌≡◌, refl, ℕ, ◌*◌}
use Rattle.std.proofs.Common.{sym, ◌∙◌, ap, arith}
use mathlib.Core.Quot.{sound, Quot-set, ind}
use mathlib.Core.HLevel.{Π_prop}
use Rattle.rational.specs.Fraction.{Fraction, Same, add, mul, neg}
use Rattle.rational.specs.Rational.{ℚ, number, from, lifted, ◌+ℚ◌, ◌*ℚ◌, neg_ℚ, ◌-ℚ◌, ◌over◌, ι, 0ℚ, 1ℚ, ½}

-- ---- a proposition about rationals is proved at fractions

pub at₁ : {P : ℚ → Type 0} → ((a : ℚ) → IsProp (P a)) → ((x : Fraction) → P (number x)) → (a : ℚ) → P a
unfolding ℚ number
at₁ p h = ind p h

pub at₂ : {P : ℚ → ℚ → Type 0} → ((a b : ℚ) → IsProp (P a b)) → ((x y : Fraction) → P (number x) (number y)) → (a b : ℚ) → P a b
at₂ p h = at₁ (λ a. Π_prop (p a)) (λ x. at₁ (p (number x)) (h x))

at₃ : {P : ℚ → ℚ → ℚ → Type 0} → ((a b c : ℚ) → IsProp (P a b c)) → ((x y z : Fraction) → P (number x) (number y) (number z))
    → (a b c : ℚ) → P a b c
at₃ p h = at₁ (λ a. Π_prop (λ b. Π_prop (p a b))) (λ x. at₂ (p (number x)) (h x))

pub ℚ-set : IsSet ℚ
unfolding ℚ
ℚ-set = Quot-set

-- ---- the laws

pub +ℚ-assoc : (a b c : ℚ) → (a +ℚ b) +ℚ c ≡ a +ℚ (b +ℚ c)
unfolding ℚ number ◌+ℚ◌ lifted from add
+ℚ-assoc = at₃ (λ a b c. ℚ-set _ _) (λ x y z. sound (omega arith))

pub +ℚ-comm : (a b : ℚ) → a +ℚ b ≡ b +ℚ a
unfolding ℚ number ◌+ℚ◌ lifted from add
+ℚ-comm = at₂ (λ a b. ℚ-set _ _) (λ x y. sound (omega arith))

pub +ℚ-zero : (a : ℚ) → a +ℚ 0ℚ ≡ a
unfolding ℚ number ◌+ℚ◌ lifted from add ι ◌over◌
+ℚ-zero = at₁ (λ a. ℚ-set _ _) (λ x. sound (omega arith))

pub +ℚ-neg : (a : ℚ) → a +ℚ neg_ℚ a ≡ 0ℚ
unfolding ℚ number ◌+ℚ◌ lifted from add neg_ℚ neg ι ◌over◌
+ℚ-neg = at₁ (λ a. ℚ-set _ _) (λ x. sound (omega arith))

pub *ℚ-assoc : (a b c : ℚ) → (a *ℚ b) *ℚ c ≡ a *ℚ (b *ℚ c)
unfolding ℚ number ◌*ℚ◌ lifted from mul
*ℚ-assoc = at₃ (λ a b c. ℚ-set _ _) (λ x y z. sound (omega arith))

pub *ℚ-comm : (a b : ℚ) → a *ℚ b ≡ b *ℚ a
unfolding ℚ number ◌*ℚ◌ lifted from mul
*ℚ-comm = at₂ (λ a b. ℚ-set _ _) (λ x y. sound (omega arith))

pub *ℚ-one : (a : ℚ) → a *ℚ 1ℚ ≡ a
unfolding ℚ number ◌*ℚ◌ lifted from mul ι ◌over◌
*ℚ-one = at₁ (λ a. ℚ-set _ _) (λ x. sound (omega arith))

-- The same fraction in larger terms.
scaled : (x y : Fraction) (k : ℕ) → y.up ≡ x.up * k → y.down ≡ x.down * k → y.den ≡ x.den * k → Same x y
scaled x y k e f g = rw (e, f, g) (omega arith)

pub *ℚ-+ℚ : (a b c : ℚ) → a *ℚ (b +ℚ c) ≡ a *ℚ b +ℚ a *ℚ c
unfolding ℚ number ◌+ℚ◌ ◌*ℚ◌ lifted from add mul
*ℚ-+ℚ = at₃ (λ a b c. ℚ-set _ _) (λ x y z. sound
    (scaled (mul x (add y z)) (add (mul x y) (mul x z)) x.den (omega arith) (omega arith) (omega arith)))

pub half-half : ½ +ℚ ½ ≡ 1ℚ
unfolding ℚ number ◌+ℚ◌ lifted from add ι ◌over◌ ½
half-half = sound refl

-- ---- the same from the other side

pub zero-+ℚ : (a : ℚ) → 0ℚ +ℚ a ≡ a
zero-+ℚ a = +ℚ-comm 0ℚ a ∙ +ℚ-zero a

pub neg-+ℚ : (a : ℚ) → neg_ℚ a +ℚ a ≡ 0ℚ
neg-+ℚ a = +ℚ-comm (neg_ℚ a) a ∙ +ℚ-neg a

pub one-*ℚ : (a : ℚ) → 1ℚ *ℚ a ≡ a
one-*ℚ a = *ℚ-comm 1ℚ a ∙ *ℚ-one a

pub +ℚ-left : (a b c : ℚ) → a +ℚ (b +ℚ c) ≡ b +ℚ (a +ℚ c)
+ℚ-left a b c = sym (+ℚ-assoc a b c) ∙ ap (◌+ℚ c) (+ℚ-comm a b) ∙ +ℚ-assoc b a c

pub *ℚ-left : (a b c : ℚ) → a *ℚ (b *ℚ c) ≡ b *ℚ (a *ℚ c)
*ℚ-left a b c = sym (*ℚ-assoc a b c) ∙ ap (◌*ℚ c) (*ℚ-comm a b) ∙ *ℚ-assoc b a c

pub +ℚ-*ℚ : (a b c : ℚ) → (a +ℚ b) *ℚ c ≡ a *ℚ c +ℚ b *ℚ c
+ℚ-*ℚ a b c = *ℚ-comm (a +ℚ b) c ∙ *ℚ-+ℚ c a b ∙ ap (◌+ℚ (c *ℚ b)) (*ℚ-comm c a) ∙ ap ((a *ℚ c) +ℚ◌) (*ℚ-comm c b)

-- Products are multiplied out, sums and products sorted: no difference is cancelled.
pub ruleset ring = (+ℚ-assoc, +ℚ-comm, +ℚ-left, *ℚ-assoc, *ℚ-comm, *ℚ-left, *ℚ-+ℚ, +ℚ-*ℚ, +ℚ-zero, zero-+ℚ, *ℚ-one, one-*ℚ)

-- ---- differences and negatives

pub +ℚ-cancel : (a b c : ℚ) → a +ℚ b ≡ a +ℚ c → b ≡ c
+ℚ-cancel a b c e = drop b ∙ ap (◌+ℚ neg_ℚ a) e ∙ sym (drop c)
  where
    drop : (x : ℚ) → x ≡ (a +ℚ x) +ℚ neg_ℚ a
    drop x = sym (+ℚ-zero x) ∙ ap (x +ℚ◌) (sym (+ℚ-neg a)) ∙ simp ring

pub minus_plus : (a b : ℚ) → a -ℚ b +ℚ b ≡ a
minus_plus a b = +ℚ-assoc a (neg_ℚ b) b ∙ ap (a +ℚ◌) (neg-+ℚ b) ∙ +ℚ-zero a

-- a − b is what b needs to come to a.
pub minus_is : (a b c : ℚ) → b +ℚ c ≡ a → a -ℚ b ≡ c
minus_is a b c e = +ℚ-cancel b (a -ℚ b) c (+ℚ-comm b (a -ℚ b) ∙ minus_plus a b ∙ sym e)

-- − a is what a needs to come to 0.
pub neg_ℚ-is : (a c : ℚ) → a +ℚ c ≡ 0ℚ → neg_ℚ a ≡ c
neg_ℚ-is a c e = +ℚ-cancel a (neg_ℚ a) c (+ℚ-neg a ∙ sym e)

pub neg_ℚ-neg_ℚ : (a : ℚ) → neg_ℚ (neg_ℚ a) ≡ a
neg_ℚ-neg_ℚ a = neg_ℚ-is (neg_ℚ a) a (neg-+ℚ a)

pub neg_ℚ-+ : (a b : ℚ) → neg_ℚ (a +ℚ b) ≡ neg_ℚ a +ℚ neg_ℚ b
neg_ℚ-+ a b = let e : (a +ℚ b) +ℚ (neg_ℚ a +ℚ neg_ℚ b) ≡ (a +ℚ neg_ℚ a) +ℚ (b +ℚ neg_ℚ b) = simp ring in
    neg_ℚ-is (a +ℚ b) (neg_ℚ a +ℚ neg_ℚ b) (e ∙ ap (◌+ℚ (b +ℚ neg_ℚ b)) (+ℚ-neg a) ∙ ap (0ℚ +ℚ◌) (+ℚ-neg b) ∙ +ℚ-zero 0ℚ)

pub neg-minus : (a b : ℚ) → neg_ℚ (a -ℚ b) ≡ b -ℚ a
neg-minus a b = neg_ℚ-+ a (neg_ℚ b) ∙ ap (neg_ℚ a +ℚ◌) (neg_ℚ-neg_ℚ b) ∙ +ℚ-comm (neg_ℚ a) b

pub *ℚ-zero : (a : ℚ) → a *ℚ 0ℚ ≡ 0ℚ
*ℚ-zero a = +ℚ-cancel (a *ℚ 0ℚ) (a *ℚ 0ℚ) 0ℚ (sym (*ℚ-+ℚ a 0ℚ 0ℚ) ∙ ap (a *ℚ◌) (+ℚ-zero 0ℚ) ∙ sym (+ℚ-zero (a *ℚ 0ℚ)))

pub zero-*ℚ : (a : ℚ) → 0ℚ *ℚ a ≡ 0ℚ
zero-*ℚ a = *ℚ-comm 0ℚ a ∙ *ℚ-zero a

pub neg_ℚ-* : (a b : ℚ) → neg_ℚ a *ℚ b ≡ neg_ℚ (a *ℚ b)
neg_ℚ-* a b = sym (neg_ℚ-is (a *ℚ b) (neg_ℚ a *ℚ b) (sym (+ℚ-*ℚ a (neg_ℚ a) b) ∙ ap (◌*ℚ b) (+ℚ-neg a) ∙ zero-*ℚ b))

pub *ℚ-neg_ℚ : (a b : ℚ) → a *ℚ neg_ℚ b ≡ neg_ℚ (a *ℚ b)
*ℚ-neg_ℚ a b = *ℚ-comm a (neg_ℚ b) ∙ neg_ℚ-* b a ∙ ap neg_ℚ (*ℚ-comm b a)

pub half_twice : (a : ℚ) → ½ *ℚ (a +ℚ a) ≡ a
half_twice a = *ℚ-+ℚ ½ a a ∙ sym (+ℚ-*ℚ ½ ½ a) ∙ ap (◌*ℚ a) half-half ∙ one-*ℚ a
