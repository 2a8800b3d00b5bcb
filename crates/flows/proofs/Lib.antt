-- Laws that the proofs of programs cite.
--     Flowing   a turn of the program keeps what it knows, and fewer can follow; its end
pub mod Flowing
