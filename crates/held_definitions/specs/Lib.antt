pub mod Looks
pub mod Theorems
pub mod ClosingTerms
pub mod inner
