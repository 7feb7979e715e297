pub mod Ends
pub mod Ranks
pub mod Words
pub mod Joining
pub mod Placing
pub mod Finding
