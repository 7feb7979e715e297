pub mod RowLemmas
pub mod TableLemmas
pub mod RangeLemmas
pub mod NumberLemmas
pub mod LongLemmas
pub mod ByteLemmas
