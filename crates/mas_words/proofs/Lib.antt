pub mod Built
pub mod Dooms
pub mod Leaves
pub mod Readings
pub mod Rows
pub mod Sorts
pub mod Steps
pub mod Tops
