pub mod Places
pub mod Joining
pub mod Ways
pub mod Shapes
pub mod Steps
