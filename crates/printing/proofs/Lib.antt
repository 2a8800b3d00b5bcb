-- the number of a refused field is that of a cause
pub mod Numbers
-- in a run it is that of the definitions
pub mod Brief
