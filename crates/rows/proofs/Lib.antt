pub mod RowWords
-- Binary digits that every byte of a row lacks, as a test on the numbers that the bytes spell.
pub mod Masks
