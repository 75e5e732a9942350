pub mod Left
pub mod Again
pub mod Beginning
pub mod Joins
pub mod Early
pub mod Unstopped
