-- Finishing in rows of fixed width.
--     Wide                      sets in rows of 12 exponents and 6 numbers
--     Padded, Mapped            lists continued by zeros; selecting and folding changed elements
--     WideCollect, WideStages   each stage of finishing commutes with widening
--     WideFinish                finishing does
--     WideRecord                the record and the spans are the same
pub mod Wide
pub mod Padded
pub mod Mapped
pub mod WideCollect
pub mod WideStages
pub mod Stages
pub mod WideFinish
pub mod WideRecord
pub mod Held
pub mod Reduce
pub mod Spans
pub mod Numbers
pub mod Packing
pub mod Answer
