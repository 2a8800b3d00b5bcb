-- what the machine makes of 32 bits has the value that they stand for
pub mod Pattern
-- the tests on floats decide as the exact numbers do
pub mod Compared
