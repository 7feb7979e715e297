pub mod Sum
pub mod Store
pub mod Words
pub mod Call
pub mod Split
