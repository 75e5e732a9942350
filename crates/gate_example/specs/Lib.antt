pub mod Writing
pub mod Crowds
