-- Each promise once more with its whole statement, so that one that is gone or weakened is refused here. The table of what is proved is
-- held to these files by .ci/promises. A file for each crate whose theorems it holds, named after it; of the definitions four, by subject.
--     ModelPromise     what an output promises of every motion
--     ModelEnclosure   every motion is enclosed; hulls
--     ModelPrecision   how precise sums, disturbances and steps are; what finishing leaves
--     ModelRuns        what a run holds, what it refuses, what is rewritten and printed
--     Cases            the computed cases, by name alone
pub mod ModelPromise
pub mod ModelEnclosure
pub mod ModelPrecision
pub mod ModelRuns
pub mod Run
pub mod Feeding
pub mod Rewriting
pub mod Floats
pub mod Readings
pub mod Judging
pub mod Sums
pub mod Step
pub mod Hull
pub mod Zonotope
pub mod Finish
pub mod Forms
pub mod Whole
pub mod Rational
pub mod Cases
