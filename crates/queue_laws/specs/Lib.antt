pub mod Laws
pub mod OwnerChange
pub mod Marks
pub mod Runs
pub mod Examples
