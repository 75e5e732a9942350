pub mod Lent
pub mod Beginnings
pub mod Between
pub mod Passings
