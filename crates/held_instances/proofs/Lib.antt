pub mod AskedLemmas
pub mod ImageLemmas
pub mod ImagingLemmas
pub mod InstanceLemmas
pub mod ListingLemmas
pub mod SlotLemmas
