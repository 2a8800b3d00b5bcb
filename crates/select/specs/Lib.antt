-- Which terms and generators are folded.
--     Bar        the bar in a list of sizes, and the marks that follow from it
--     Selected   the places of the smallest, and of those that pass a test; what is left when they are folded
--     Stage      the stages of finishing, from what their passes do
pub mod Bar
pub mod Selected
pub mod Stage
