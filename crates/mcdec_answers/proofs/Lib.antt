pub mod Prints
pub mod NameWords
pub mod Givens
pub mod Values
pub mod ArgWords
pub mod CommandNames
pub mod Words
pub mod OneCommand
