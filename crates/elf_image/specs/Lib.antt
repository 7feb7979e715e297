pub mod Header
pub mod Symbol
pub mod Fault
pub mod Image
pub use Rattle.rv_words.specs.Bytes
pub mod inner
