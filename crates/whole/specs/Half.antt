-- The fold rule of an even term. Where all exponents of a term are even, its product of powers lies in 0..1, so the term lies between 0
-- and its coefficient g. Folding it (moving it into the independent part) moves the centre by `half g` and widens the radius by
-- `half_size g`. Callers use the laws below.
use Rattle.std.specs.Prelude.{◌≡◌, refl, ℕ, ◌+◌, ◌/◌, ◌≤◌, ℤ, pos, negsuc, neg_ℤ, nat_abs, ◌+ℤ◌, ◌-ℤ◌}
use Rattle.std.proofs.Common.{arith}
use Rattle.whole.specs.AsNaturals.{as_ℕ}
use Rattle.whole.specs.Mirror.{mirrored, mirrored-neg}

-- g / 2, rounded toward zero
unfoldable pub half : ℤ → ℤ
half g = mirrored (λ n. n / 2) g

-- |g| / 2, rounded up
unfoldable pub half_size : ℤ → ℕ
half_size g = (nat_abs g + 1) / 2

-- ---- laws: what moves and what widens are |g| together, so that folding widens no span
pub half-parts : (g : ℤ) → nat_abs (half g) + half_size g ≡ nat_abs g
unfolding half half_size
half-parts (pos n) = omega arith
half-parts (negsuc n) = simp as_ℕ (omega arith)

-- 0 and g, and so all between them, lie within `half_size g` of `half g`
pub half-zero : (g : ℤ) → nat_abs (half g) ≤ half_size g
unfolding half half_size
half-zero (pos n) = omega arith
half-zero (negsuc n) = simp as_ℕ (omega arith)

pub half_end : (g : ℤ) → nat_abs (g -ℤ half g) ≤ half_size g
unfolding half half_size
half_end (pos n) = simp as_ℕ (omega arith)
half_end (negsuc n) = simp as_ℕ (omega arith)

-- a coefficient and its negative are halved alike
pub half-neg : (g : ℤ) → half (neg_ℤ g) ≡ neg_ℤ (half g)
unfolding half
half-neg g = mirrored-neg (λ n. n / 2) refl g

-- an even number is halved exactly
pub half_twice : (z : ℤ) → half (z +ℤ z) ≡ z
unfolding half
half_twice (pos n) = simp as_ℕ (omega arith)
half_twice (negsuc n) = simp as_ℕ (omega arith)

pub half_of-zero : half (pos 0) ≡ pos 0
half_of-zero = half_twice (pos 0)
