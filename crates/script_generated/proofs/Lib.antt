pub mod Cards
pub mod Lines
pub mod Parts
pub mod Rows
pub mod Tables
