-- Proofs of the contracts.
pub mod Digits
