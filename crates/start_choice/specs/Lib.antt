pub mod Choosing
pub mod Usable
