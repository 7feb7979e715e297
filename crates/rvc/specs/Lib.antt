pub mod Parcel
pub mod Expands
pub mod Number
