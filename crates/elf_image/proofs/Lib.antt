pub mod TableLemmas
pub mod WholeLemmas
pub mod SymbolLemmas
pub mod ValueLemmas
pub mod FaultLemmas
pub mod ImageLemmas
pub mod CodeLemmas
pub mod OrderLemmas
