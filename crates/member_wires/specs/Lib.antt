pub mod Acts
pub mod Asides
