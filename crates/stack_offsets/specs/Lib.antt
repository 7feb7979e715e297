pub mod Offsets
pub mod SplitExact
pub mod Runs
pub mod inner
