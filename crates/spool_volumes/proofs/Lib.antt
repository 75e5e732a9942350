mod TextLemmas
mod ReadLemmas
pub mod LookLemmas
