pub mod Range
pub mod inner
