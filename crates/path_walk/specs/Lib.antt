pub mod Closed
pub mod Further
pub mod Forgotten
pub mod Item
pub mod Linked
pub mod Split
pub mod inner
