pub mod Spooling
pub mod Decks
pub mod Batches
pub mod Steps
pub mod Keeping
pub mod Taking
pub mod Examples
pub mod Names
