-- Operations on accepted sets.
--     Summand    an accepted record as a summand
--     Disturb    a disturbance of a record
--     Wide       an accepted record in rows of fixed width
--     Summable   what is asked of two sets and of the next identifier, and the answer for their factors
--     Arguments  the causes that refuse two sets and a next identifier, and what is known where none does
--     Summed     the sum of two accepted records, in rows
pub mod Summand
pub mod Disturb
pub mod Wide
pub mod Summable
pub mod Arguments
pub mod Summed
