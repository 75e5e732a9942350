pub mod Limits
pub mod Grammar
pub mod Whole
pub mod Refused
pub mod Laws
