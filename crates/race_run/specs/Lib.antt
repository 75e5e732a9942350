pub mod Scripts
pub mod Races
pub mod Racing
pub mod Racers
pub mod Values
pub mod Rounds
