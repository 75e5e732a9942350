pub mod Kinds
pub mod Bringing
