pub mod Bench
pub mod Standing
pub mod Sharing
