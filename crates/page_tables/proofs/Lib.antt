pub mod PartLemmas
pub mod HeaderOver
pub mod SlotLemmas
pub mod TakeLemmas
