-- the record of a sound state means that state, and a field leaves the record of what the definitions leave
pub mod Recorded
