-- A field of each kind.
--     Kinds          the kinds of field: what each means, and its tag
--     Refusal        the number that refuses a field by its body
--     Effect         what a field of a kind does to a set
--     Layout         a body that is as long as its counts say; a field's causes in parts
--     Sets           fields whose body is a set: its causes in parts
--     Steps          steps and ranged steps: their causes in parts, and what they leave in their work slices
--     Asked          the step and the half-widths that are given in slices
--     Entries        their entries and half-widths in arrays
--     Disturbances   a disturbance: its causes in parts
--     Reductions     a reduction: its causes in parts
--     Checks         a check: its causes are those of its region
pub mod Kinds
pub mod Refusal
pub mod Effect
pub mod Layout
pub mod Sets
pub mod Steps
pub mod Asked
pub mod Entries
pub mod Disturbances
pub mod Reductions
pub mod Checks
