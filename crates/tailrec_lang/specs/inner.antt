pub mod WellFormed
pub mod Tree
pub mod Walk
