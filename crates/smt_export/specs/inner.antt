pub mod Telling
pub mod Following
pub mod Exported
pub mod Sorting
pub mod Steps
pub mod Reach
pub mod Room
pub mod Applications
