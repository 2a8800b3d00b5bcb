-- Laws that the proofs of programs cite.
--     Traces    one read or one write more
--     Streams   a program that gives for every input what a function says
pub mod Traces
pub mod Streams
