pub mod Names
pub mod Faults
pub mod Listing
pub mod Refusals
pub mod Parts
pub mod Functions
pub mod inner
