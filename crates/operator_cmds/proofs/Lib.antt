pub mod Reaching
pub mod Following
pub mod AllForms
pub mod Typing
pub mod Computing
