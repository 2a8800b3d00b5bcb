-- The size |a| of a whole number, `nat_abs a`, and bounds on it.
use Rattle.std.specs.Prelude.{◌≡◌, refl, ◌↔◌, ℕ, suc, ◌+◌, ◌*◌, ◌≤◌, ℤ, pos, negsuc, neg_ℤ, nat_abs, ◌+ℤ◌, ◌-ℤ◌, ◌*ℤ◌, ◌≤ℤ◌}
use Rattle.std.proofs.Common.{mul-le-mul, le_refl, le_trans, arith}
use Rattle.whole.specs.AsNaturals.{as_ℕ, as_ℕ_sizes}

pub abs_neg : (a : ℤ) → nat_abs (neg_ℤ a) ≡ nat_abs a
abs_neg a = simp as_ℕ (omega arith)

pub abs_mul : (a b : ℤ) → nat_abs (a *ℤ b) ≡ nat_abs a * nat_abs b
abs_mul (pos k) (pos j) = refl
abs_mul (pos k) (negsuc j) = abs_neg (pos (k * suc j))
abs_mul (negsuc k) (pos j) = abs_neg (pos (suc k * j))
abs_mul (negsuc k) (negsuc j) = refl

-- |a + b| ≤ |a| + |b|
pub abs_add : (a b : ℤ) → nat_abs (a +ℤ b) ≤ nat_abs a + nat_abs b
abs_add a b = simp as_ℕ_sizes (omega arith)

pub abs_le : (a : ℤ) (k : ℕ) → (nat_abs a ≤ k) ↔ ((neg_ℤ (pos k) ≤ℤ a) × (a ≤ℤ pos k))
abs_le a k = simp as_ℕ (omega arith)

pub abs_zero : {a : ℤ} → nat_abs a ≡ 0 → a ≡ pos 0
abs_zero = simp as_ℕ (omega arith)

-- ---- |z| ≤ K, as a record, so that both numbers are inferred. The bound of a term is built as the term is
pub record Within (K : ℕ) (z : ℤ) : Type 0 where
  pub size : nat_abs z ≤ K

pub within-pos : (k : ℕ) → Within k (pos k)
within-pos k = record { size = le_refl k }

pub within-neg : {a : ℤ} {K : ℕ} → Within K a → Within K (neg_ℤ a)
within-neg {a} h = record { size = rw (abs_neg a) h.size }

pub within-add : {a b : ℤ} {K J : ℕ} → Within K a → Within J b → Within (K + J) (a +ℤ b)
within-add {a} {b} h k = record { size = omega (arith, abs_add a b) }

pub within_sub : {a b : ℤ} {K J : ℕ} → Within K a → Within J b → Within (K + J) (a -ℤ b)
within_sub h k = within-add h (within-neg k)

pub within-mul : {a b : ℤ} {K J : ℕ} → Within K a → Within J b → Within (K * J) (a *ℤ b)
within-mul h k = record { size = rw abs_mul (mul-le-mul h.size k.size) }

pub within_mono : {z : ℤ} {K J : ℕ} → Within K z → K ≤ J → Within J z
within_mono h l = record { size = le_trans h.size l }
