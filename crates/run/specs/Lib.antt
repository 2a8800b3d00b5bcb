-- A run on records and bytes.
--     Unfit     states that no run has
--     Fitness   a call that can be taken
--     Field     one field: the answer and the next state
--     Taking    what a call returns and leaves in the work slices
--     Whole     a whole input: the last answer and the last state
--     Course    how far a run over a whole input has come, and what is still to come
--     Enclosed  what is claimed of every motion: demand 3 of the records that are returned
--     NeverUnfit  what is claimed of every call: which ones are refused
pub mod Unfit
pub mod Fitness
pub mod Field
pub mod Taking
pub mod Whole
pub mod Course
pub mod Enclosed
pub mod NeverUnfit
