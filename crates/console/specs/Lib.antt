-- What the contracts cite.
--     Trace     what was read and written, by which calls
--     History   some reads and some writes, one after the other
--     Streams   a program that gives for every input what a function says
pub mod Trace
pub mod History
pub mod Streams
