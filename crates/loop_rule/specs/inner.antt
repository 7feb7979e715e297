pub mod Rule
pub mod Citing
