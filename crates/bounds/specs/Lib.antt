-- The box and the check.
--     Answer   the answers: document 01's number and values for each of their cases
pub mod Answer
