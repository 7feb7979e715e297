pub mod State
pub mod Step
pub mod Update
pub mod Run
pub mod Touches
pub mod inner
