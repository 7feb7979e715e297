pub mod RunLemmas
pub mod StuckLemmas
pub mod MemoryLemmas
pub mod StepLemmas
pub mod StateLemmas
pub mod RegisterLemmas
mod EvenLemmas
