-- What is proved of the definitions.
--     Left     the state that a field leaves, as a record
--     OneTurn  one turn
--     First    the first field of what was read
--     Written  what functions that make turns answer
--     Pieces   however an input is cut, what calls hand over is what is printed for it
pub mod Left
pub mod OneTurn
pub mod First
pub mod Written
pub mod Pieces
