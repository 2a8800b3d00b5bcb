-- Laws that the proofs cite.
--     Closed    what is printed where no whole field is left
--     Flowing   how the program starts and ends
--     Promise   the program keeps its promise
pub mod Closed
pub mod Flowing
pub mod Promise
