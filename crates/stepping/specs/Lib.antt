-- The image of an accepted set under an accepted step, finished.
--     Work       the work space of a step, and whether it was used
--     Arguments  what it says of a step that its counts are within limits, and that nothing refuses it
--     Shortened  finishing forgets terms of zeros
--     Held       the rounded image in rows is a set in wide form, with numbers for which nothing overflows
pub mod Work
pub mod Arguments
pub mod Shortened
pub mod Held
