pub mod ListLemmas
pub mod Sorting
pub mod LineLemmas
pub mod NumeralLemmas
pub mod EmptyQueue
