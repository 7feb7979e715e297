pub mod Fields
pub mod Decodes
pub mod Ranges
pub mod Encodes
pub mod Registers
pub mod inner
