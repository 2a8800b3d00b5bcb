-- What fits a signed width, and a signed number read back from its bits. In a proof about code a signed local holds bits, so a goal shows
-- `to_z w (of_z w z)`; each law here takes that back to z.
use Rattle.std.specs.Prelude.{◌≡◌, ℕ, ◌^◌, ◌<◌, ◌≤◌, T, ltb, ℤ, nat_abs}
use Rattle.std.proofs.Common.{sym, ◌∙◌, ap, arith, ltb→lt, to_z-of_z}
use Rattle.std.specs.Int.Signed.{mag}
use Rattle.std.specs.Int.{Width, w32, w64}
use mir.Val.{SFits, hbits, to_z, of_z}
use Rattle.whole.specs.AsNaturals.{as_ℕ}
use Rattle.whole.specs.Size.{Within}

-- ---- by the size
pub fits_abs : {w : Width} {z : ℤ} → nat_abs z < 2 ^ hbits w → SFits w z
fits_abs = simp as_ℕ (omega arith)

pub abs_fits : {w : Width} {z : ℤ} → SFits w z → nat_abs z ≤ 2 ^ hbits w
abs_fits = simp as_ℕ (omega arith)

pub within_fits : {w : Width} {z : ℤ} → SFits w z → Within (2 ^ hbits w) z
within_fits f = record { size = abs_fits f }

-- a bound that is a literal computes: `fits_by (within_sub (within-mul ha hb) (within-mul hc hd)) tt`
pub fits_by : {w : Width} {z : ℤ} {K : ℕ} → Within K z → T (ltb K (2 ^ hbits w)) → SFits w z
fits_by {w} {z} {K} h t = fits_abs (omega (arith, h.size, ltb→lt K (2 ^ hbits w) t))

-- ---- read back
pub read32 : (z : ℤ) → mag z < 2 ^ 31 → to_z w32 (of_z w32 z) ≡ z
read32 z h = to_z-of_z {w = w32} {z = z} (record { sfits = h })

pub read64 : (z : ℤ) → mag z < 2 ^ 63 → to_z w64 (of_z w64 z) ≡ z
read64 z h = to_z-of_z {w = w64} {z = z} (record { sfits = h })

-- a call's result: `got64 c.f.ensures c.f.ok`
pub got32 : {r z : ℤ} → r ≡ z → mag r < 2 ^ 31 → to_z w32 (of_z w32 r) ≡ z
got32 {r} e h = read32 r h ∙ e

pub got64 : {r z : ℤ} → r ≡ z → mag r < 2 ^ 63 → to_z w64 (of_z w64 r) ≡ z
got64 {r} e h = read64 r h ∙ e

-- a local that a loop changes, of which the invariant says `n ≡ of_z w z`
pub held : {w : Width} {n : ℕ} (z : ℤ) → n ≡ of_z w z → SFits w z → to_z w n ≡ z
held {w} z e f = ap (to_z w) e ∙ to_z-of_z f

-- a test `x == y` of signed numbers is one of their bits
pub bits_eq : {w : Width} {x y : ℤ} → SFits w x → SFits w y → of_z w x ≡ of_z w y → x ≡ y
bits_eq {w} f g e = sym (to_z-of_z f) ∙ ap (to_z w) e ∙ to_z-of_z g
