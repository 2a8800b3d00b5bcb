-- The order of ℤ, and what sums and products do to it.
use Rattle.std.specs.Prelude.{◌≡◌, ◌↔◌, ◌⊎◌, ℕ, suc, ◌+◌, ◌*◌, ◌<◌, ℤ, pos, negsuc, neg_ℤ, ◌+ℤ◌, ◌-ℤ◌, ◌*ℤ◌, ◌≤ℤ◌, ◌<ℤ◌}
use Rattle.std.proofs.Common.{inl, inr, mul-le-mul_left, arith}
use Rattle.std.proofs.Math.Nat.{lt_of_mul-lt-mul_left}
use Rattle.std.proofs.Math.Decide.{dec_lt}
use Rattle.whole.specs.Difference.{positive, negative}
use Rattle.whole.specs.AsNaturals.{as_ℕ, as_ℕ_linear}

pub ≤ℤ-trans : {a b c : ℤ} → a ≤ℤ b → b ≤ℤ c → a ≤ℤ c
≤ℤ-trans = simp as_ℕ (omega arith)

pub ≤ℤ-antisym : {a b : ℤ} → a ≤ℤ b → b ≤ℤ a → a ≡ b
≤ℤ-antisym = simp as_ℕ (omega arith)

pub ≤ℤ-total : (a b : ℤ) → (a ≤ℤ b) ⊎ (b <ℤ a)
≤ℤ-total a b = go (dec_lt (positive b + negative a) (positive a + negative b))
  where
    go : Dec (positive b + negative a < positive a + negative b) → (a ≤ℤ b) ⊎ (b <ℤ a)
    go (yes h) = inr (simp as_ℕ (omega arith))
    go (no h) = inl (simp as_ℕ (omega arith))

pub <ℤ-≤ℤ : {a b : ℤ} → a <ℤ b → a ≤ℤ b
<ℤ-≤ℤ = simp as_ℕ (omega arith)

pub <ℤ-suc : (a b : ℤ) → (a <ℤ b) ↔ ((a +ℤ pos 1) ≤ℤ b)
<ℤ-suc a b = simp as_ℕ (omega arith)

pub not-≤ℤ : (a b : ℤ) → ¬ (a ≤ℤ b) ↔ (b <ℤ a)
not-≤ℤ a b = simp as_ℕ (omega arith)

-- ---- sums
pub +ℤ-mono : {a b c d : ℤ} → a ≤ℤ b → c ≤ℤ d → (a +ℤ c) ≤ℤ (b +ℤ d)
+ℤ-mono = simp as_ℕ (omega arith)

pub neg_ℤ-anti : {a b : ℤ} → a ≤ℤ b → neg_ℤ b ≤ℤ neg_ℤ a
neg_ℤ-anti = simp as_ℕ (omega arith)

-- an order by what lies between: the two differ by a number that isn't negative
pub le_by : (a b s : ℤ) → b -ℤ a ≡ s → pos 0 ≤ℤ s → a ≤ℤ b
le_by a b s = simp as_ℕ_linear (omega arith)

-- ---- products
pub *ℤ-mono : (k : ℕ) {a b : ℤ} → a ≤ℤ b → (pos k *ℤ a) ≤ℤ (pos k *ℤ b)
*ℤ-mono k h = simp as_ℕ (omega (arith, mul-le-mul_left k (simp as_ℕ at h)))

pub *ℤ-cancel_lt : (k : ℕ) {a b : ℤ} → (pos k *ℤ a) <ℤ (pos k *ℤ b) → a <ℤ b
*ℤ-cancel_lt k {a} {b} h =
    simp as_ℕ (omega (
      arith,
      lt_of_mul-lt-mul_left k {m = positive a + negative b} {n = positive b + negative a}
          (omega (arith, simp as_ℕ at h)),
    ))

-- ---- signs: `search signs` shows that a polynomial isn't negative
pub nonneg_pos : (k : ℕ) → pos 0 ≤ℤ pos k
nonneg_pos k = simp as_ℕ (omega arith)

pub nonneg-add : (a b : ℤ) → pos 0 ≤ℤ a → pos 0 ≤ℤ b → pos 0 ≤ℤ (a +ℤ b)
nonneg-add a b = simp as_ℕ (omega arith)

pub nonneg-mul : (a b : ℤ) → pos 0 ≤ℤ a → pos 0 ≤ℤ b → pos 0 ≤ℤ (a *ℤ b)
nonneg-mul (pos k) (pos j) h l = nonneg_pos (k * j)
nonneg-mul (pos k) (negsuc j) h l = absurd l.le
nonneg-mul (negsuc k) b h l = absurd h.le

pub square_nonneg : (a : ℤ) → pos 0 ≤ℤ (a *ℤ a)
square_nonneg (pos k) = nonneg_pos (k * k)
square_nonneg (negsuc k) = nonneg_pos (suc k * suc k)

pub ruleset signs = (square_nonneg, nonneg_pos, nonneg-add, nonneg-mul)
