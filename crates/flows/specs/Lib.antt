-- Programs that take field after field.
--     Flow   what such a program is, and what it knows between turns
pub mod Flow
