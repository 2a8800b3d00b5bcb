-- Linear and quadratic forms over whole numbers, as the code computes them.
--     Dot       laws of dot products and bilinear forms
--     Line      each raw number of a step as one dot product
--     Tables    rows and forms that stand in flat lists
--     Numbers   the raw numbers of a step on six coordinates, from three tables
--     Wide      a step on six coordinates: its unused entries are 0
--     Same      it has the numbers of the step
--     Past      which are 0 past the step's rows
--     RowsTo    so that the tables have no rows for them
--     Made      an array that a closure makes
--     Answered  what `all` and `any` answer
--     Filling   a loop or a copy that fills a run of places of a slice
--     Products  the facts of a loop that sums six products
pub mod Dot
pub mod Line
pub mod Tables
pub mod Numbers
pub mod Wide
pub mod Same
pub mod Past
pub mod RowsTo
pub mod Made
pub mod Answered
pub mod Filling
pub mod Products
