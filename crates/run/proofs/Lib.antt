-- What is proved of a run on records.
--     Reached   the states that calls lead to are those of the definitions, and none of them refuses a call
--     Accepts   an answer accepts its field exactly where the definitions do
--     Enclosed  demand 3 of the records that are returned
--     RunEnclosed  the same of what a whole input gives
pub mod Reached
pub mod Accepts
pub mod Enclosed
pub mod RunEnclosed
-- The laws of a run's course: it begins, goes on by a field, and ends.
pub mod CourseLaws
-- one turn of a run over a whole input, and the loop's invariant
pub mod Turning
-- a work slice that is cleared where it was used
pub mod Cleared
