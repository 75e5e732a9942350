pub mod Lost
pub mod FileView
