pub mod Building
pub mod Linked
pub mod Reached
