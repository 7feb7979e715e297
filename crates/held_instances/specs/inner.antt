pub mod ImageNode
pub mod Imaging
pub mod Slots
pub mod Listings
pub mod Instances
