pub mod AccessLemmas
pub mod Items
