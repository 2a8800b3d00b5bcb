-- The sum of two sets before finishing, as rows of fixed width. What the contracts cite comes first in each file, its laws after it.
--     identifiers in an array, one more put in order      Listed, Insert
--     exponents written for the factors of both sets      Align
--     places and rows written one after the other         Runs, Numbers
--     what examining a record gives                       Examined
--     the sum that is promised, and that it is written    Sum, Radii, Joins
pub mod Listed
pub mod Insert
pub mod Align
pub mod Runs
pub mod Examined
pub mod Sum
pub mod Radii
pub mod Numbers
pub mod Joins
