-- Calls that change a set.
--     Causes    each call's refusal, by its parts in their order
--     Passed    what is known where no cause refuses
pub mod Causes
pub mod Passed
