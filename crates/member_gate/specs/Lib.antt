pub mod Marking
pub mod Views
pub mod Hands
pub mod Passes
pub mod Rules
