pub mod Image
pub mod inner
