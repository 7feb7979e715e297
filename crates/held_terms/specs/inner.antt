pub mod Numbers
pub mod Ways
pub mod Put
