pub mod Chain
-- The order of a call's causes, and what is left where nothing refuses.
pub mod Order
-- What a call results in and leaves in its work slices, from what is asked before it is worked out.
pub mod Called
