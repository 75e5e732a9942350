pub mod Fronts
pub mod Parts
pub mod Items
pub mod Continued
pub mod Seen
pub mod Refusals
pub mod Fields
