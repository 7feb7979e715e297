pub mod Flow
pub mod Walks
pub mod Reach
pub mod Graph
pub mod inner
pub use Rattle.elf_image.specs.Image
