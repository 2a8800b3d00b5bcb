-- Promised of rounding and of halving.
use mathlib.Core.Path.{◌≡◌}
use Prim.Native.Nat.{◌≤◌, ◌%◌, ◌*◌, ◌+◌}
use lib.Dec.{T}
use lib.IntN.{ℤ, nat_abs, ◌-ℤ◌, pos, ◌*ℤ◌, neg_ℤ}
use Rattle.whole.specs.Round.{scale, round, exact, inexact}
use Rattle.whole.specs.Half.{half, half_size}
use Rattle.whole.specs.Round as Round
use Rattle.whole.proofs.Unique as RoundLaws
use Rattle.whole.specs.Half as Half

-- Rounding is within half a unit of the number.
pub round_near : (v : ℤ) → nat_abs (v -ℤ pos scale *ℤ round v) ≤ 8388608
round_near = Round.round_near

-- At exactly half a unit it is even.
pub round-even : (v : ℤ) → nat_abs (v -ℤ pos scale *ℤ round v) ≡ 8388608 → nat_abs (round v) % 2 ≡ 0
round-even = Round.round-even

-- No other whole number is both.
pub round_unique : (v q : ℤ) → nat_abs (v -ℤ pos scale *ℤ q) ≤ 8388608
    → (nat_abs (v -ℤ pos scale *ℤ q) ≡ 8388608 → nat_abs q % 2 ≡ 0) → q ≡ round v
round_unique = RoundLaws.round_unique

-- It is exact where the scale divides the number.
pub round_exact : (v : ℤ) → T (exact v) → pos scale *ℤ round v ≡ v
round_exact = Round.round_exact

-- It loses at most half a unit for each inexact rounding.
pub round_loses : (v : ℤ) → nat_abs (v -ℤ pos scale *ℤ round v) ≤ 8388608 * inexact v
round_loses = Round.round_loses

-- A number and its negative are rounded alike.
pub round-neg : (v : ℤ) → round (neg_ℤ v) ≡ neg_ℤ (round v)
round-neg = Round.round-neg

-- 0 lies within a coefficient's half size, rounded up, of its half.
pub half-zero : (g : ℤ) → nat_abs (half g) ≤ half_size g
half-zero = Half.half-zero

-- So does the coefficient itself.
pub half_end : (g : ℤ) → nat_abs (g -ℤ half g) ≤ half_size g
half_end = Half.half_end

-- The sizes of both halves are together that of the coefficient.
pub half-parts : (g : ℤ) → nat_abs (half g) + half_size g ≡ nat_abs g
half-parts = Half.half-parts

-- A coefficient and its negative are halved alike.
pub half-neg : (g : ℤ) → half (neg_ℤ g) ≡ neg_ℤ (half g)
half-neg = Half.half-neg
