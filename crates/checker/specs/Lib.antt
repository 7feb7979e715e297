pub mod Bench
pub mod LineTerms
pub mod Short
pub mod ShortRules
pub mod inner
