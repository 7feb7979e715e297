pub mod RowLemmas
pub mod OffsetLemmas
pub mod Search
pub mod AtAddresses
pub mod AccessLemmas
pub mod RunLemmas
