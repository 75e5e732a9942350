pub mod Records
pub mod Groups
pub mod Tallies
pub mod Worlds
pub mod Volumes
pub mod Checks
