-- Numbers in bytes.
--     Number    laws of the numbers in bytes, of any width
--     Filling   what is said of a closure that gives the value of each place of a slice
pub mod Number
pub mod Filling
