pub mod Bodies
pub mod SameBodies
pub mod Ranges
pub mod Ranged
