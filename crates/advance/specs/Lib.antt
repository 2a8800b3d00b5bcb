-- One field given to a state of a run.
--     Header          12, 2, 1: what is known before the body is read
--     Running         a state that a run can have
--     Advanced        what is answered and left, and what becomes of the work slices
--     RecordRuns      the record of a sound state is one that a run can have
--     Totals          the totals of what folding added, after an accepted field
--     Concluded       what is answered and left, by what a field's kind does to the set
--     HeaderLaws      a header's causes by the input's own bytes
--     ConclusionLaws  the six places of an answer's ends, and what is answered by what a field comes to
pub mod Header
pub mod Running
pub mod Advanced
pub mod RecordRuns
pub mod Totals
pub mod Concluded
pub mod HeaderLaws
pub mod ConclusionLaws
