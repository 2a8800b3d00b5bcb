-- What is proved of the definitions.
--     Tests      what the tests of a field say
--     OneByte    one byte
--     Joined     a byte that joins those held
--     ManyBytes  bytes one after the other
--     Gathered   bytes that can't decide their field
--     Underway   what turns and the loop of `give` answer
--     Pieces     however an input is cut, what calls hand over is what is left of it
pub mod Tests
pub mod OneByte
pub mod Joined
pub mod ManyBytes
pub mod Gathered
pub mod Underway
pub mod Pieces
