-- What the contracts cite.
--     Line    the line of an answer
pub mod Line
