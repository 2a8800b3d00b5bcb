pub mod CallNumbers
pub mod PackView
pub mod ViewPack
