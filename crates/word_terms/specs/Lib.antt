pub mod Tree
pub mod Environment
pub mod Value
pub mod Scope
pub mod Substitution
pub use Rattle.rv_words.specs.Operation
pub use Rattle.rv_words.specs.Bytes
pub mod inner
