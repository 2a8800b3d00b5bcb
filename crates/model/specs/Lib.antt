-- Document 01 made executable, in its order: what a reader has to believe.
--     Limits       the numbers that it fixes
--     Set, Valid   sets, spans, which sets are valid
--     Finish       what becomes of every result: collect, drop, fold, reduce
--     Step         the polynomial step: raw numbers, rounding, the new radius
--     Operations   sums, disturbance, reduction, box, check
--     Ranged       the step whose entries are known within half-widths
--     Hull         the hull with a second set
--     Bytes, Body  numbers in a run file, and what the body of a field says
--     Points       the points of a set at given factor values
--     Moving       what a motion picks, and the images and points that it moves by
--     Described    what a kind of field is: causes of refusal, result, where it takes a motion, its rule for radii
--     Kind         the kinds of field, a file each
--     Field        what a field of a kind means
--     Run          the state, the refusals in their order, one field, a list of fields, a whole input
--     Rewrite      what the program `rewrite` leaves of a stored file
--     Text         what the program prints: numbers, lines, the output of a whole input
--     Rest         what is still to be printed at some place of an input
--     Library      single operations on records: their refusals in order
--     Pairs        the order of a step's pairs
--     Marked       the table of marked cases
--     Motion       what a motion is, and what is claimed of every motion (demand 3)
--     Reached      that a motion may go to its limits, and where it goes
--     Reading      an output as a person reads it: lines, words, numbers
--     Promised     what an output promises of every motion, from an input's bytes to an output's bytes
--     Origin       where the radii come from, and what is claimed of that
--     Precision    how close the results are to the true points, and what is claimed of that (demand 2)
--     Between      what is claimed of a hull
--     OldRun       the run before request A.5, and what is claimed of it and of rewritten files
pub mod Limits
pub mod Set
pub mod Valid
pub mod Finish
pub mod Step
pub mod Operations
pub mod Ranged
pub mod Hull
pub mod Bytes
pub mod Body
pub mod Points
pub mod Moving
pub mod Described
pub mod Kind
pub mod Field
pub mod Run
pub mod Rewrite
pub mod Text
pub mod Rest
pub mod Library
pub mod Pairs
pub mod Marked
pub mod Motion
pub mod Reached
pub mod Reading
pub mod Promised
pub mod Origin
pub mod Precision
pub mod Between
pub mod OldRun
