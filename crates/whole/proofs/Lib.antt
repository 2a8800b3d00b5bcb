pub mod Stored
pub mod Nearest
-- No other whole number is what rounding gives.
pub mod Unique
