pub mod Told
pub mod Telling
pub mod Terms
pub mod Joins
pub mod Bodies
pub mod Scripts
pub mod Reach
pub mod inner
