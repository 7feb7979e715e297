pub mod ShortLemmas
pub mod MakingLemmas
pub mod CodeBytes
pub mod Merging
pub mod DepthLemmas
pub mod LimitLemmas
pub mod AxiomSteps
pub mod ComputedLemmas
