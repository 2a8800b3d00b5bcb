-- ℤ is a commutative ring. The laws that the library has stand beside these: +ℤ_assoc, +ℤ_comm, *ℤ_comm, +ℤ_idl, +ℤ-invr .. of `lib.IntN`.
use Rattle.std.specs.Prelude.{◌≡◌, ℤ, pos, neg_ℤ, ◌+ℤ◌, ◌*ℤ◌}
use Rattle.std.proofs.Common.{arith}
use Rattle.std.proofs.Math.IntN.{+ℤ_assoc, +ℤ_comm, *ℤ_comm, neg_ℤ-+ℤ, neg_ℤ-neg_ℤ, +ℤ_idl, +ℤ_idr, zero-*ℤ, *ℤ-zero}
use Rattle.whole.specs.AsNaturals.{as_ℕ}

pub *ℤ-assoc : (a b c : ℤ) → (a *ℤ b) *ℤ c ≡ a *ℤ (b *ℤ c)
*ℤ-assoc a b c = simp as_ℕ (omega arith)

pub *ℤ-left_comm : (a b c : ℤ) → a *ℤ (b *ℤ c) ≡ b *ℤ (a *ℤ c)
*ℤ-left_comm a b c = simp as_ℕ (omega arith)

pub +ℤ-left_comm : (a b c : ℤ) → a +ℤ (b +ℤ c) ≡ b +ℤ (a +ℤ c)
+ℤ-left_comm a b c = simp as_ℕ (omega arith)

pub *ℤ-+ℤ : (a b c : ℤ) → a *ℤ (b +ℤ c) ≡ a *ℤ b +ℤ a *ℤ c
*ℤ-+ℤ a b c = simp as_ℕ (omega arith)

pub +ℤ-*ℤ : (a b c : ℤ) → (a +ℤ b) *ℤ c ≡ a *ℤ c +ℤ b *ℤ c
+ℤ-*ℤ a b c = simp as_ℕ (omega arith)

pub one-*ℤ : (a : ℤ) → pos 1 *ℤ a ≡ a
one-*ℤ a = simp as_ℕ (omega arith)

pub *ℤ-neg_ℤ : (a b : ℤ) → a *ℤ neg_ℤ b ≡ neg_ℤ (a *ℤ b)
*ℤ-neg_ℤ a b = simp as_ℕ (omega arith)

pub neg_ℤ-*ℤ : (a b : ℤ) → neg_ℤ a *ℤ b ≡ neg_ℤ (a *ℤ b)
neg_ℤ-*ℤ a b = simp as_ℕ (omega arith)

-- `simp expand` multiplies out and sorts: it closes identities that need no cancellation and no coefficients.
-- For others see `Quote.antt`
pub ruleset sorted = (*ℤ-assoc, *ℤ_comm, *ℤ-left_comm, +ℤ_assoc, +ℤ_comm, +ℤ-left_comm)

pub ruleset expand = (*ℤ-+ℤ, +ℤ-*ℤ, *ℤ-neg_ℤ, neg_ℤ-*ℤ, neg_ℤ-+ℤ, neg_ℤ-neg_ℤ, sorted, +ℤ_idl, +ℤ_idr, zero-*ℤ, *ℤ-zero)
