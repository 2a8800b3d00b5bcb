-- What is proved of the definitions.
--     Cases     floats, entries and logs, computed from bytes to bytes
--     Counted   the counts match the lines
--     Printed   which line says `outside`
--     Ruled     no motion is at the reading of a line that does
--     Refuted   outputs that break that claim
--     Part      what is still to be printed, by the entries that are held next
--     Ends      ends that a float holds exactly
pub mod Cases
pub mod Counted
pub mod Printed
pub mod Ruled
pub mod Refuted
pub mod Part
pub mod Ends
