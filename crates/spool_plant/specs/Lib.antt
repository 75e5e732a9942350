pub mod View
pub mod Acts
pub mod Crash
pub mod Source
