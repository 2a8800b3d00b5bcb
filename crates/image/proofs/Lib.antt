-- A step's image meets `Imaged`, stage by stage.
pub mod Imaged
