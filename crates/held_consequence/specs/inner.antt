pub mod Table
pub mod Places
pub mod Pairs
pub mod SideTables
pub mod Alone
pub mod Following
pub mod Classes
