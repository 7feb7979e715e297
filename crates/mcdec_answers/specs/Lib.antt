pub mod Printed
pub mod Command
pub mod CommandReading
pub mod inner
