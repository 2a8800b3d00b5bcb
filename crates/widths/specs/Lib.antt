-- Half-widths beside the entries of a step.
--     Widths    what they add to S, as the code computes it
--     Gained    it is the definition's, small, and 0 past the step's coordinates
--     Spanning  the spans are the definition's
--     Entries   what the test of entries with their half-widths says of the half-widths
pub mod Widths
pub mod Gained
pub mod Spanning
pub mod Entries
