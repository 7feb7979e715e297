pub mod Table
pub mod ShortSpelling
pub mod SpelledShort
pub mod ShortLimits
pub mod ShortProofs
pub mod FullLine
pub mod inner
