pub mod PieceLemmas
pub mod LimitLemmas
pub mod MemoryLemmas
pub mod WordLemmas
mod WorkedValues
