-- What the contracts cite, and its laws.
--     Appended   a piece of text put into a buffer
--     Pieces     the pieces of which lines are made
--     Lines      lines from their pieces
pub mod Appended
pub mod Pieces
pub mod Lines
