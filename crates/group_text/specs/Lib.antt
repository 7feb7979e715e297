pub mod Version
pub mod Spelling
pub mod Limits
pub mod Parts
pub mod TermSpelling
pub mod TermLimits
pub mod TermReading
pub mod inner
