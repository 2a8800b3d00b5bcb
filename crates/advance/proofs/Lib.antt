-- a field by its tag, and the first field of what is left of the input
pub mod FieldLaws
