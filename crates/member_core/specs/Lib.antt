pub mod Worlds
pub mod Events
pub mod Holds
pub mod Told
pub mod Right
pub mod Examples
pub mod Steps
