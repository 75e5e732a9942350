pub mod Sent
pub mod Walks
