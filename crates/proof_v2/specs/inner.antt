pub mod Shortening
pub mod Migrating
pub mod Rewriting
pub mod ShortReading
