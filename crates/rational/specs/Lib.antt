-- The rational numbers, from the definition to sums over lists. Nothing is assumed.

-- fractions of natural numbers, when two are the same number, and their arithmetic
pub mod Fraction
-- WHAT ℚ IS: the numbers, +, ·, −, the embedding ι, z over d, ≤ and <
pub mod Rational
-- whole numbers by their parts above and below zero
pub mod Parts
-- |x| ≤ r: `Within`
pub mod Bounds
-- x is v but for at most r: `Near`
pub mod Near
-- powers; numbers in [-1, 1] and in [0, 1]: `power`, `even`, `InUnit`
pub mod Power
-- sums over lists: `sum`, `All`
pub mod Sum
