-- Terms in work slices.
--     WorkSpace    what a contract says of work space
--     Rows         what rows of exponents and coefficients hold
--     Compare      the answer of a comparison, and tests of it
--     Words        bytes as the digits of a number: lists of bytes are in the order of what they spell
--     Masks        whether a byte lacks binary digits
--     Places       what holds of each place of a list
--     Terms        terms by their places
--     Cells        a row of numbers that was written, bounds on all numbers
--     Sifting      a pass that keeps some rows, in place
--     Zero         rows of zeros
pub mod WorkSpace
pub mod Rows
pub mod Compare
pub mod Words
pub mod Masks
pub mod Places
pub mod Terms
pub mod Cells
pub mod Sifting
pub mod Zero
