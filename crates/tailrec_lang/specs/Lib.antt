pub mod Tree
pub mod WellFormed
pub mod Eval
pub mod Registers
pub use Rattle.word_terms.specs.Tree as Terms
pub use Rattle.word_terms.specs.Environment
pub use Rattle.word_terms.specs.Value
pub use Rattle.word_terms.specs.Scope
pub mod inner
