-- A result as a call answers it, and what finishing a set in wide form and the set itself give.
pub mod Settled
