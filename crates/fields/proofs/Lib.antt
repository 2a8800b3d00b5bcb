-- What is proved beside the functions.
--     SetLaws  what a body with a set in it is answered, and what the code asks of it
pub mod SetLaws
