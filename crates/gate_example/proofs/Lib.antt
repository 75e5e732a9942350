pub mod Entries
pub mod Joined
