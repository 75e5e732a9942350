pub mod ListedLemmas
pub mod EndLemmas
