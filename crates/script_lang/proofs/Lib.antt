pub mod Parts
pub mod Blanks
