pub mod Near
pub mod Histories
pub mod Writers
pub mod Walks
pub mod Acts
pub mod Blocks
pub mod Lines
pub mod LinkedWalks
