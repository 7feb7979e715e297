pub mod AheadLemmas
pub mod FilesLemmas
pub mod HeldLemmas
pub mod LineLemmas
pub mod OnlyReadsLemmas
pub mod ReadingLemmas
