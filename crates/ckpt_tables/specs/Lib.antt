pub mod Shape
pub mod Pages
