-- Readings of a laser, held against the boxes of a run.
--     Entry    an entry of a log: five bytes, a reading or none; what it says beside a box
--     Asked    the ends that a run asks entries for
--     Held     the whole log held against them, and what is printed
--     Ruled    what a line says of motions
--     Part     some entries, one after the other, and what is then still to be printed
pub mod Entry
pub mod Asked
pub mod Held
pub mod Ruled
pub mod Part
