pub mod LineReading
pub mod Subs
pub mod OwnCode
pub mod LineReaders
pub mod PulledRows
pub mod Drawing
pub mod Pulling
pub mod Sourcing
