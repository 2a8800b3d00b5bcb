-- What a call that changes a set answers.
--     Answer     the changed set, or a refusal with the first set as it came
--     Order      the first set, the other arguments, the result: what is asked in this order
--     Accepted   what it says of a record that no cause refuses it
--     Chain      the record of a valid set is accepted by the next call
--     Finishing  what finishing asks of a result in rows
pub mod Answer
pub mod Order
pub mod Accepted
pub mod Chain
pub mod Finishing
