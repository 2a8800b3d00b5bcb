-- The program's reads and writes.
--     Streamed   what it read and wrote, by its calls of `console`
--     Along      what it knows between turns
pub mod Streamed
pub mod Along
