-- What is left of an input that comes in pieces.
--     Given    one byte, and bytes one after the other
--     Reached  what calls lead to, and what is still to be written there
--     Done     what functions that take bytes answer and leave
--     Pieces   what is claimed, however the input is cut
pub mod Given
pub mod Reached
pub mod Done
pub mod Pieces
