pub mod Operation
pub mod Bytes
pub mod Limits
pub mod Ranges
pub mod formers
pub mod inner
