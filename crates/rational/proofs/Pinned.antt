-- The theorems that pin ℚ down: every rational is some z over d, d times (z over d) is z, z over d is y over e exactly when z·e = y·d,
-- and the embedding ι of the whole numbers keeps +, ·, −, ≤ and <, both ways, and joins no two.
use Rattle.std.specs.Prelude.{◌≡◌, refl, ◌↔◌, Bool, true, false, not, ℕ, zero, suc, ◌+◌, ◌*◌, ◌<◌, T, ℤ, pos, neg_ℤ, ◌+ℤ◌, ◌*ℤ◌, ◌≤ℤ◌, ◌<ℤ◌}
use Rattle.std.proofs.Common.{sym, ◌∙◌, ap, subst, arith, leb→le, le→leb}
use Rattle.std.proofs.Math.Logic.{∥∥₁_prop}
use mathlib.Core.Quot.{sound}
use Rattle.std.proofs.Math.IntN.{sub_ℕ}
use Rattle.std.specs.Int.Signed.{lt_z, lt_z_yes, lt_z_no, ≤ℤ_refl, clash_ℤ}
use Rattle.whole.specs.Order.{≤ℤ-antisym}
use Rattle.rational.specs.Fraction.{Fraction, above, below, denominator, add, mul, neg}
use Rattle.rational.specs.Parts.{sub_parts, sum-parts, neg-parts, product-parts, order-parts}
use Rattle.rational.specs.Rational.{ℚ, number, from, lifted, ◌+ℚ◌, ◌*ℚ◌, neg_ℚ, ◌over◌, ι, 1ℚ, nonneg, ◌≤ℚ◌, ◌<ℚ◌}
use Rattle.rational.proofs.Ring.{at₁, ring, *ℚ-assoc, *ℚ-comm, one-*ℚ}

-- ---- the embedding

pub ι-+ : (a b : ℤ) → ι (a +ℤ b) ≡ ι a +ℚ ι b
unfolding ℚ number ◌over◌ ι ◌+ℚ◌ lifted from add
ι-+ a b = sound (omega (arith, sum-parts a b))

pub ι-* : (a b : ℤ) → ι (a *ℤ b) ≡ ι a *ℚ ι b
unfolding ℚ number ◌over◌ ι ◌*ℚ◌ lifted from mul
ι-* a b = sound (omega (arith, product-parts a b))

pub ι-neg : (a : ℤ) → ι (neg_ℤ a) ≡ neg_ℚ (ι a)
unfolding ℚ number ◌over◌ ι neg_ℚ neg
ι-neg a = sound (omega (arith, neg-parts a))

pub ι-≤ : (a b : ℤ) → (ι a ≤ℚ ι b) ↔ (a ≤ℤ b)
unfolding ℚ number ◌over◌ ι ◌+ℚ◌ lifted from add neg_ℚ neg nonneg
ι-≤ a b = (λ h. (order-parts a b).1 (omega (arith, leb→le)), λ h. record { le = omega (arith, le→leb, (order-parts a b).0 h) })

pub ι-< : (a b : ℤ) → (ι a <ℚ ι b) ↔ (a <ℤ b)
ι-< a b = (λ h. by_test (lt_z a b) lt_z_yes (λ t. absurd (h.lt ((ι-≤ b a).1 (lt_z_no t)))), λ h. record { lt = λ k. clash_ℤ h ((ι-≤ b a).0 k) })
  where
    by_test : (c : Bool) → (T c → a <ℤ b) → (T (not c) → a <ℤ b) → a <ℤ b
    by_test true f g = f tt
    by_test false f g = g tt

-- Two whole numbers stay two.
pub ι-inj : (a b : ℤ) → ι a ≡ ι b → a ≡ b
ι-inj a b e = let r = (ι-≤ a a).1 (≤ℤ_refl a) in
    ≤ℤ-antisym ((ι-≤ a b).0 (subst (λ x. ι a ≤ℚ x) e r)) ((ι-≤ b a).0 (subst (λ x. x ≤ℚ ι a) e r))

-- ---- z over d

-- d times (z over d) is z.
pub over-* : (z : ℤ) (d : ℕ) → 0 < d → ι (pos d) *ℚ (z over d) ≡ ι z
unfolding ℚ number ◌over◌ ι ◌*ℚ◌ lifted from mul
over-* z zero h = absurd (omega arith)
over-* z (suc d) h = sound (omega arith)

-- Every rational is some z over d.
pub every : (a : ℚ) → ∥ ((z : ℤ) × (d : ℕ) × (0 < d) × (a ≡ z over d)) ∥₁
unfolding ℚ number ◌over◌
every = at₁ (λ a. ∥∥₁_prop) λ x. ∣ (sub_ℕ x.up x.down, x.den, x.positive, is x) ∣₁
  where
    itself : (d : ℕ) → 0 < d → denominator d ≡ d
    itself zero h = absurd (omega arith)
    itself (suc d) h = refl

    times : (u d p q D : ℕ) → p + d ≡ u + q → u * D + q * D ≡ p * D + d * D
    times u d p q D h = omega (arith, ap (λ (t : ℕ). t * D) h)

    is : (x : Fraction) → number x ≡ sub_ℕ x.up x.down over x.den
    is x = let z = sub_ℕ x.up x.down in
        sound (rw (itself x.den x.positive) (times x.up x.down (above z) (below z) x.den (sub_parts x.up x.down)))

-- A positive factor is cancelled.
pub *ℚ-cancel : (d : ℕ) (a b : ℚ) → 0 < d → ι (pos d) *ℚ a ≡ ι (pos d) *ℚ b → a ≡ b
*ℚ-cancel d a b h e = sym (undo a) ∙ ap ((pos 1 over d) *ℚ◌) e ∙ undo b
  where
    undo : (x : ℚ) → (pos 1 over d) *ℚ (ι (pos d) *ℚ x) ≡ x
    undo x = sym (*ℚ-assoc (pos 1 over d) (ι (pos d)) x)
        ∙ ap (◌*ℚ x) (*ℚ-comm (pos 1 over d) (ι (pos d)) ∙ over-* (pos 1) d h) ∙ one-*ℚ x

-- d·e times z over d.
cleared : (z : ℤ) (d e : ℕ) → 0 < d → ι (z *ℤ pos e) ≡ ι (pos d) *ℚ (ι (pos e) *ℚ (z over d))
cleared z d e h = ι-* z (pos e) ∙ ap (◌*ℚ ι (pos e)) (sym (over-* z d h)) ∙ simp ring

-- Equal when the cross products are, and only then.
pub over_eq : (z : ℤ) (d : ℕ) (y : ℤ) (e : ℕ) → 0 < d → 0 < e → (z over d ≡ y over e) ↔ (z *ℤ pos e ≡ y *ℤ pos d)
over_eq z d y e h k = (
  λ p. ι-inj (z *ℤ pos e) (y *ℤ pos d) (cleared z d e h ∙ ap (λ x. ι (pos d) *ℚ (ι (pos e) *ℚ x)) p ∙ sym other),
  λ p. *ℚ-cancel e (z over d) (y over e) k (*ℚ-cancel d (ι (pos e) *ℚ (z over d)) (ι (pos e) *ℚ (y over e)) h
      (sym (cleared z d e h) ∙ ap ι p ∙ other)),
)
  where
    other : ι (y *ℤ pos d) ≡ ι (pos d) *ℚ (ι (pos e) *ℚ (y over e))
    other = cleared y e d k ∙ simp ring

-- A literal denominator is not counted out.
pub literal : ι (pos 16777216) *ℚ (pos 1 over 16777216) ≡ 1ℚ
literal = over-* (pos 1) 16777216 (omega arith)
