-- The image of a set under a step, rounded, before it is finished.
--     StepAccepted  what is asked of the step
--     Summing       a loop that sums
--     Rounding      rows rounded in place, and the count of inexact roundings
--     KeptRows      rows of zeros that are left out
--     Remainder     S and what is carried
--     Gaining       what S gains from outside the step
--     Counting      six counters to which rows are added
--     Radii         it is the definition's
--     Padded        the image under the wide step is that under the step
--     Counted       rounding and counting in wide form are the definition's
--     Imaged        what `of_step` promises, from what its stages do
pub mod StepAccepted
pub mod Summing
pub mod Rounding
pub mod KeptRows
pub mod Remainder
pub mod Gaining
pub mod Counting
pub mod Radii
pub mod Padded
pub mod Counted
pub mod Imaged
