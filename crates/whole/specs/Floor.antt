-- Division rounded down by a positive number. The library's `shr_z` is it: at `negsuc a`, which is -(a + 1), it gives -(a / d + 1).
use Rattle.std.specs.Prelude.{◌≡◌, ℕ, ◌<◌, ℤ, pos, negsuc, ◌+ℤ◌, ◌*ℤ◌, ◌≤ℤ◌, ◌<ℤ◌}
use Rattle.std.proofs.Math.Nat.{div-add-mod}
use Rattle.std.proofs.Common.{mod-lt, arith}
use Rattle.std.specs.Int.Signed.{shr_z}
use Rattle.whole.specs.AsNaturals.{as_ℕ}
use Rattle.whole.specs.Order.{*ℤ-cancel_lt}

-- z / d, rounded down
abbrev pub floor : ℤ → ℕ → ℤ
floor z d = shr_z z d

-- ---- d·floor ≤ z < d·(floor + 1), and no other number has both bounds
pub floor_le : (z : ℤ) (d : ℕ) → 0 < d → (pos d *ℤ floor z d) ≤ℤ z
floor_le (pos a) d h = simp as_ℕ (omega (arith, div-add-mod a d, mod-lt a h))
floor_le (negsuc a) d h = simp as_ℕ (omega (arith, div-add-mod a d, mod-lt a h))

pub floor_lt : (z : ℤ) (d : ℕ) → 0 < d → z <ℤ (pos d *ℤ (floor z d +ℤ pos 1))
floor_lt (pos a) d h = simp as_ℕ (omega (arith, div-add-mod a d, mod-lt a h))
floor_lt (negsuc a) d h = simp as_ℕ (omega (arith, div-add-mod a d, mod-lt a h))

pub floor_unique : (z q : ℤ) (d : ℕ) → 0 < d → (pos d *ℤ q) ≤ℤ z → z <ℤ (pos d *ℤ (q +ℤ pos 1)) → q ≡ floor z d
floor_unique z q d h l u =
    let a : q <ℤ (floor z d +ℤ pos 1) = *ℤ-cancel_lt d (simp as_ℕ (omega (arith, simp as_ℕ at l, simp as_ℕ at (floor_lt z d h)))) in
    let b : floor z d <ℤ (q +ℤ pos 1) = *ℤ-cancel_lt d (simp as_ℕ (omega (arith, simp as_ℕ at u, simp as_ℕ at (floor_le z d h)))) in
    simp as_ℕ (omega (arith, simp as_ℕ at a, simp as_ℕ at b))
