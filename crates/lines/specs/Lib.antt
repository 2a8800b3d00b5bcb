-- What the contracts cite.
--     Put   a line put at the start of a slice that has room for it
pub mod Put
