pub mod Checking
pub mod Sourced
