pub mod OnlyReads
pub mod Ahead
pub mod Ends
