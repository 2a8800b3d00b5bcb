-- Factors that occur in no term are dropped.
--     Kept      what is kept of a list by a test on places
--     Squeeze   chosen places listed in an array, and arrays filled with what stands there
--     Unused    which factors occur, and terms and identifiers without the others
pub mod Kept
pub mod Squeeze
pub mod Unused
