pub mod Jobs
pub mod Advance
pub mod Places
