-- The arrays of a record, in rows.
--     Rows      rows of a list, sums and tests over them, by place
--     Columns   the sums of all columns, grown row by row
--     Spare     unused places
--     Ascent    tables that rise
--     Chains    what the library's chains decide
pub mod Rows
pub mod Columns
pub mod Spare
pub mod Ascent
pub mod Chains
