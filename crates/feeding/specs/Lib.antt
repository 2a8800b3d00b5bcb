-- A run from input that comes in pieces.
--     Fed      one turn
--     Reached  what calls lead to, and what is still to be printed there
--     Done     what a function that makes turns answers and leaves
--     Pieces   what is claimed, however the input is cut
pub mod Fed
pub mod Reached
pub mod Done
pub mod Pieces
