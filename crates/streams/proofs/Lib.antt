-- What is proved of every lawful machine.
--     Ready     whether a turn can be made
--     Turns     what holds of each turn holds of all
--     Ending    fewer can follow
--     Cut       where no whole field is left
--     Pieces    however an input is cut, what calls hand over is what is printed for it
--     Underway  the loop that makes turns
pub mod Ready
pub mod Turns
pub mod Ending
pub mod Cut
pub mod Pieces
pub mod Underway
