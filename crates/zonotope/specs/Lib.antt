-- The record of a set.
--     Record   what a record means (`view`), the record of a set (`pack`), and which places are unused
--     Causes   what refuses a set, by the places of its record's arrays
--     Counts   counts within limits
--     Shape    the lengths of a record's arrays, the shape of a set
--     View     what a record means, by the places of its arrays
--     Valid    a set that no cause refuses
--     Answer   document 01's number for each case of an answer
--     CallNumbers   the numbers with which calls refuse
pub mod Record
pub mod Causes
pub mod Counts
pub mod Shape
pub mod View
pub mod Valid
pub mod Answer
pub mod CallNumbers
