-- The polynomial step of a set.
--     Answer    the refusals, and what the work slices hold afterwards
--     Order     a refusal by its parts: room, the set, the call's own causes, the result
--     Left      what a work slice is left with
--     Called    what a call results in and leaves
pub mod Answer
pub mod Order
pub mod Left
pub mod Called
