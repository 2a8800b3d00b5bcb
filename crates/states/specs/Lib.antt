-- The state of a run and its answers as records.
--     FirstField  the first field of an input, by the input's own bytes
--     State     what a state means, and what a field leaves
--     Answer    document 01's number and values for each case of an answer
--     Taken     one field given to a state of a run
pub mod FirstField
pub mod State
pub mod Answer
pub mod Taken
