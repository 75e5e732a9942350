pub mod Form
pub mod Fits
