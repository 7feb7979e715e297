pub mod Tree
pub mod Fact
pub mod Valid
pub mod Swap
pub mod Rules
