pub mod Fine
pub mod inner
