pub mod Scanning
pub mod Reading
pub mod Printing
pub mod Outcome
pub mod Number
