pub mod Held
pub mod Subterms
pub mod Terms
pub mod inner
