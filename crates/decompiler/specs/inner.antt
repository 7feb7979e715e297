pub mod CodeBytes
pub mod Functions
