pub mod Texts
pub mod Groups
pub mod Slots
pub mod Faults
pub mod Jobs
pub mod Commands
pub mod Locks
