pub mod Lines
pub mod Config
pub mod Asks
pub mod Script
