-- The hull of two sets.
--     Causes    the refusal of a hull by its parts: the two sets, the next identifier, the factors, the result
pub mod Causes
