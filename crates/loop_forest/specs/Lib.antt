pub mod Cycles
pub mod Loops
pub mod Regions
pub mod Cuts
pub mod Addresses
pub mod Forest
pub mod Walking
pub mod inner
