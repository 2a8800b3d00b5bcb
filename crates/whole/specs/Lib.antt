-- Laws of whole numbers, lists and slices, by what a reader looks for:
--     a goal over ℤ turned into one that `omega` proves    AsNaturals (the set `as_ℕ`), resting on Difference
--     ℤ as an ordered ring                                 Ring, Order, Size (|a|, bounds on it)
--     a ring identity that `as_ℕ` can't do                 Quote, resting on Polynomial and Normaliser
--     what fits 64 bits, a number read back from its bits  Fits
--     division rounded down                                Floor
--     the rounding rule of a step, the fold rule           Round, Half, alike for both signs by Mirror
--     sums over lists and over places                      Sum
--     a slice that a loop fills, a part that was lent      Write
--     the rule of a constant table                         Table
--     the list f 0 .. f (n - 1), tests over lists          Tab
--     what a loop that stops early knows of a test         Tests
--     what `any` over a range or a slice gives             Chains
pub mod Difference
pub mod AsNaturals
pub mod Ring
pub mod Order
pub mod Size
pub mod Polynomial
pub mod Normaliser
pub mod Quote
pub mod Fits
pub mod Floor
pub mod Mirror
pub mod Round
pub mod Half
pub mod Sum
pub mod Write
pub mod Table
pub mod Tab
pub mod Tests
pub mod Chains
