-- Promised of a reading: its float is held against the ends of a box as the rational that its bits stand for.
use mathlib.Core.Path.{◌≡◌}
use mathlib.Core.Logic.{◌↔◌}
use mathlib.Core.Bool.{false, ◌&&◌}
use Prim.Native.Nat.{ℕ, ◌^◌, ◌≤◌}
use lib.Dec.{T}
use lib.IntN.{ℤ, pos, nat_abs}
use lib.Ieee.{Float, binary32, of_int, of_bits, mul, le, fits}
use Rattle.rational.specs.Rational.{ι, ◌*ℚ◌, ◌≤ℚ◌}
use Rattle.floats.specs.Value.{inside}
use Rattle.floats.specs.Bits.{endless, value, is_inside}
use Rattle.floats.specs.Scaled.{factor}
use Rattle.floats.proofs.Compared as Compared
use Rattle.floats.specs.Rational as Rational

-- A reading is inside where 4096 times its rational lies between the ends or on one.
pub is_inside_says : (low high : ℤ) (b : ℕ)
    → T (is_inside low high b) ↔ ((ι low ≤ℚ ι (pos 4096) *ℚ value b) × (ι (pos 4096) *ℚ value b ≤ℚ ι high))
is_inside_says = Rational.is_inside_says

-- The 32 bits that a log holds, and the float that they are, decide alike.
pub by_bits : (low high : ℤ) (b : ℕ) → endless b ≡ false → inside low high (of_bits binary32 b) ≡ is_inside low high b
by_bits = Compared.by_bits

-- So does the product of floats beside the ends as floats, for every float of 32 bits, infinities and NaNs too, and every end up to 2^24.
pub compared : (low high : ℤ) (r : Float) → nat_abs low ≤ 2 ^ 24 → nat_abs high ≤ 2 ^ 24 → T (fits binary32 r)
    → (le (of_int binary32 low) (mul binary32 r factor) && le (mul binary32 r factor) (of_int binary32 high)) ≡ inside low high r
compared = Compared.compared
