-- Terms in work slices, collected.
--     Lists          lists entry by entry, and their parts
--     Merging        the merge of two lists of places
--     Ordered        lists that need no merge
--     Sorting        the sort of places
--     RisingRuns     places in order, run by run
--     RunsJoined     runs behind others, joined with them
--     Collecting     terms of sorted places: equal neighbours added
--     Passing        the pass that does so
--     LeftOut        terms of zeros, left out before they are sorted
--     NonzeroPlaces  the places of the other terms
pub mod Lists
pub mod Merging
pub mod Ordered
pub mod Sorting
pub mod RisingRuns
pub mod RunsJoined
pub mod Collecting
pub mod Passing
pub mod LeftOut
pub mod NonzeroPlaces
