pub mod Draws
pub mod Pieces
pub mod Program
pub mod ElfFile
pub mod Structure
pub mod inner
