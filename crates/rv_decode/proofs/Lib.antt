pub mod RowLemmas
pub mod TableLemmas
pub mod JoinLemmas
pub mod ImmediateLemmas
pub mod BackLemmas
pub mod ForthLemmas
pub mod EncodeLemmas
pub mod RegisterLemmas
