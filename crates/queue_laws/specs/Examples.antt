-- Worked examples: what commands come to on small queues.
pub mod Small
pub mod Decks
pub mod Work
pub mod Printing
pub mod Displays
pub mod Lines
