pub mod Names
pub mod Following
pub mod Parts
