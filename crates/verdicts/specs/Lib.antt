-- The box and the verdict of a set whose counts are within limits.
--     Six      six places of which the first are given
--     Along    the lower end of a linear function, by the places of the record's arrays
--     Ends     the ends of all coordinates, by the places of the record's arrays
--     Region   an unsafe region: its halfspaces, the entries of its normals
--     Judged   the verdict; what a region's counts and lengths tell
pub mod Six
pub mod Along
pub mod Ends
pub mod Region
pub mod Judged
