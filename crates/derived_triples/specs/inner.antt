pub mod Making
pub mod Depths
