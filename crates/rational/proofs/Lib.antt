-- the ring laws, each a path; `ring`, `minus_is`
pub mod Ring
-- the theorems that pin ℚ down: every, over-*, over-eq, ι-+, ι-*, ι-neg, ι-inj, ι-≤, ι-<
pub mod Pinned
-- which rationals are not negative
pub mod Sign
-- the laws of ≤ and <; `by_gap`, `use_gap`
pub mod Order
-- equations between whole numbers inside ℚ: `diff`, `ints`
pub mod Difference
-- The laws of `Within`; `by_gaps`, `use-within`.
pub mod Bounds
-- The laws of `Near`.
pub mod Near
-- The laws of powers and of numbers in [-1, 1] and in [0, 1].
pub mod Power
-- The laws of sums over lists and of `All`.
pub mod Sum
