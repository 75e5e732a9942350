mod Computed
mod LineComputed
pub mod Takes
pub mod Given
pub mod Cutting
pub mod Shapes
pub mod Served
pub mod Facts
pub mod Sittings
pub mod Endings
pub mod Holds
pub mod Causes
pub mod LineFacts
pub mod Straight
