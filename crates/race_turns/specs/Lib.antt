pub mod Turns
pub mod Races
pub mod Sides
