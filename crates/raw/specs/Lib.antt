-- The raw image of an accepted set under a step on six coordinates.
--     Tests      what tests over lists that fail say
--     Zeros      lists of zeros
--     Sums       sums over tables
--     Accepted   what is asked of the set
--     Unused     a record's unused places hold 0, so its rows of 12 and of 6 are those of its set
--     Limits     the numbers of an accepted set are small
--     Pairs      the pair table's rule, and the pairs of the terms in use
--     PairOrder  they are the definition's pairs, in its order
--     Append     rows that are written after one another
--     Kept       terms without some of zeros
--     PairRows   the rows of the used pairs
--     Terms      all rows hold the raw terms of the definition
--     Parts      the centre and the generators
pub mod Tests
pub mod Zeros
pub mod Sums
pub mod Accepted
pub mod Unused
pub mod Limits
pub mod Pairs
pub mod PairOrder
pub mod Append
pub mod Kept
pub mod PairRows
pub mod Terms
pub mod Parts
