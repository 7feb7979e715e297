pub mod Tree
pub mod Code
pub mod Part
pub mod inner
