-- What the bodies of fields say.
--     Rows     rows of a body written into rows of a list
--     Set      the body of a set
--     Filled   positions in it, and the record that is filled from it
--     Given    what the record of a body's set means
--     Fields   the bodies of the other kinds
--     Region   the normals and bounds of a check are its halfspaces
pub mod Rows
pub mod Set
pub mod Filled
pub mod Given
pub mod Fields
pub mod Region
