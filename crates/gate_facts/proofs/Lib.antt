pub mod Lists
pub mod Values
pub mod Turns
pub mod Losses
