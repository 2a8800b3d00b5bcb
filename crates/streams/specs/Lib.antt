-- Inputs that come in pieces, for any machine that takes field after field.
--     Machine  a machine: one turn, and as many as what was read so far allows
--     Laws     what is asked of a machine, and of one that comes to its end
--     Pieces   what follows, however the input is cut
--     Made     what a function that makes turns answers and leaves
pub mod Machine
pub mod Laws
pub mod Pieces
pub mod Made
