pub mod Halves
pub mod Outcomes
pub mod Looks
pub mod Both
pub mod Finds
pub mod Lagging
pub mod Founds
pub mod ActCounts
