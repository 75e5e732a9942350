pub mod Counts
pub mod Paper
pub mod Next
pub mod Laws
pub mod Leaving
