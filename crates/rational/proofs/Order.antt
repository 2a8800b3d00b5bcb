-- The order of ℚ. `use_gap` puts a + g for b where a ≤ b, and `by_gap` makes an order of such a g.
-- What is left has no difference in it, and `simp ring` closes it.
use Rattle.std.specs.Prelude.{◌≡◌, ◌⊎◌, Bool, true, false, not, ℕ, ◌-◌, ◌≤◌, T, pos}
use Rattle.std.proofs.Common.{sym, ◌∙◌, ap, subst, inl, inr, arith, T_not}
use Rattle.std.proofs.Math.Dec.{not_T}
use Rattle.rational.specs.Rational.{ℚ, ◌+ℚ◌, ◌*ℚ◌, neg_ℚ, ◌-ℚ◌, ι, 0ℚ, nonneg, NonNeg, ◌≤ℚ◌, ◌<ℚ◌}
use Rattle.rational.proofs.Ring.{ring, +ℚ-comm, +ℚ-zero, zero-+ℚ, +ℚ-assoc, neg-+ℚ, minus_plus, minus_is, neg_ℚ-+, neg-minus}
use Rattle.rational.proofs.Sign.{NonNeg-+, NonNeg-*, NonNeg-ι, negative-nonneg, zero_by_sign}
use Rattle.rational.proofs.Pinned.{ι-+}

-- ---- an order and its gap

-- What a ≤ b leaves between a and b.
pub gap : {a b : ℚ} → a ≤ℚ b → NonNeg (b -ℚ a)
gap h = record { nn = h.le }

pub gap_eq : (a b : ℚ) → a +ℚ (b -ℚ a) ≡ b
gap_eq a b = +ℚ-comm a (b -ℚ a) ∙ minus_plus b a

-- To show a ≤ b: b is a + c with c not negative.
pub by_gap : {a b c : ℚ} → NonNeg c → a +ℚ c ≡ b → a ≤ℚ b
by_gap {a} {b} {c} h e = record { le = subst (λ x. T (nonneg x)) (sym (minus_is b a c e)) h.nn }

-- To use a ≤ b: show P at a + g with g not negative, and it holds at b.
pub use_gap : {a b : ℚ} (P : ℚ → Type 0) → a ≤ℚ b → ((g : ℚ) → NonNeg g → P (a +ℚ g)) → P b
use_gap {a} {b} P h f = subst P (gap_eq a b) (f (b -ℚ a) (gap h))

pub NonNeg-≤ : {a : ℚ} → NonNeg a → 0ℚ ≤ℚ a
NonNeg-≤ {a} n = by_gap n (zero-+ℚ a)

pub ≤-NonNeg : {a : ℚ} → 0ℚ ≤ℚ a → NonNeg a
≤-NonNeg h = use_gap NonNeg h (λ g ng. rw zero-+ℚ ng)

-- ---- a total order

pub ≤ℚ-refl : (a : ℚ) → a ≤ℚ a
≤ℚ-refl a = by_gap (NonNeg-ι 0) (+ℚ-zero a)

pub ≤ℚ-trans : {a b c : ℚ} → a ≤ℚ b → b ≤ℚ c → a ≤ℚ c
≤ℚ-trans {a} h k = use_gap (a ≤ℚ◌) k λ v nv. use_gap (λ b. a ≤ℚ b +ℚ v) h λ u nu. by_gap (NonNeg-+ nu nv) (simp ring)

pub ≤ℚ-antisym : {a b : ℚ} → a ≤ℚ b → b ≤ℚ a → a ≡ b
≤ℚ-antisym {a} {b} h k = let z : b -ℚ a ≡ 0ℚ = zero_by_sign (b -ℚ a) h.le (subst (λ x. T (nonneg x)) (sym (neg-minus b a)) k.le) in
    sym (+ℚ-zero a) ∙ ap (a +ℚ◌) (sym z) ∙ gap_eq a b

-- One way or, strictly, the other.
pub ≤ℚ-or-<ℚ : (a b : ℚ) → (a ≤ℚ b) ⊎ (b <ℚ a)
≤ℚ-or-<ℚ a b = by_test (nonneg (b -ℚ a)) (λ t. record { le = t }) (λ t. record { lt = λ h. T_not (nonneg (b -ℚ a)) t h.le })
  where
    by_test : (c : Bool) → (T c → a ≤ℚ b) → (T (not c) → b <ℚ a) → (a ≤ℚ b) ⊎ (b <ℚ a)
    by_test true f g = inl (f tt)
    by_test false f g = inr (g tt)

pub <ℚ-≤ℚ : {a b : ℚ} → a <ℚ b → a ≤ℚ b
<ℚ-≤ℚ {a} {b} h = record {
  le = subst (λ x. T (nonneg x)) (neg-minus a b)
      (negative-nonneg (a -ℚ b) (not_T (nonneg (a -ℚ b)) (λ t. h.lt (record { le = t }))));
}

pub ≤ℚ-total : (a b : ℚ) → (a ≤ℚ b) ⊎ (b ≤ℚ a)
≤ℚ-total a b = elim (≤ℚ-or-<ℚ a b) [ inl h ↦ inl h | inr h ↦ inr (<ℚ-≤ℚ h) ]

pub ≤ℚ-<ℚ-trans : {a b c : ℚ} → a ≤ℚ b → b <ℚ c → a <ℚ c
≤ℚ-<ℚ-trans h k = record { lt = λ l. k.lt (≤ℚ-trans l h) }

pub <ℚ-≤ℚ-trans : {a b c : ℚ} → a <ℚ b → b ≤ℚ c → a <ℚ c
<ℚ-≤ℚ-trans h k = record { lt = λ l. h.lt (≤ℚ-trans k l) }

-- ---- the order and the operations

pub ≤ℚ-+ : {a b c d : ℚ} → a ≤ℚ b → c ≤ℚ d → a +ℚ c ≤ℚ b +ℚ d
≤ℚ-+ {a} {b} {c} {d} h k = use_gap (λ b. a +ℚ c ≤ℚ b +ℚ d) h λ u nu. use_gap (λ d. a +ℚ c ≤ℚ a +ℚ u +ℚ d) k λ v nv.
    by_gap (NonNeg-+ nu nv) (simp ring)

pub ≤ℚ-* : {a b c : ℚ} → NonNeg c → a ≤ℚ b → c *ℚ a ≤ℚ c *ℚ b
≤ℚ-* {a} {b} {c} n h = use_gap (λ b. c *ℚ a ≤ℚ c *ℚ b) h λ u nu. by_gap (NonNeg-* n nu) (simp ring)

pub ≤ℚ-neg : {a b : ℚ} → a ≤ℚ b → neg_ℚ b ≤ℚ neg_ℚ a
≤ℚ-neg {a} h = use_gap (λ b. neg_ℚ b ≤ℚ neg_ℚ a) h λ g ng. by_gap ng
    (ap (◌+ℚ g) (neg_ℚ-+ a g) ∙ +ℚ-assoc (neg_ℚ a) (neg_ℚ g) g ∙ ap (neg_ℚ a +ℚ◌) (neg-+ℚ g) ∙ +ℚ-zero (neg_ℚ a))

-- `ι-≤` of `Pinned` for naturals.
pub ι-mono : {m n : ℕ} → m ≤ n → ι (pos m) ≤ℚ ι (pos n)
ι-mono {m} {n} h = by_gap (NonNeg-ι (n - m)) (sym (ι-+ (pos m) (pos (n - m))) ∙ ap (λ k. ι (pos k)) (omega arith))
