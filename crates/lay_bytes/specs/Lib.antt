pub mod Bytes
pub mod Limits
pub mod Fields
pub mod Slots
pub mod Used
