-- Laws that the proofs cite.
--     Flowing   a turn of the program
pub mod Flowing
