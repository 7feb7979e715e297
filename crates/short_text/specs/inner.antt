pub mod Kinds
pub mod ShortReading
pub mod TableParts
pub mod ShortReaders
