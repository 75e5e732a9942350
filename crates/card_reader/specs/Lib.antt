pub mod Cards
pub mod Operands
pub mod Statements
pub mod Jes
pub mod Jobs
pub mod Decks
