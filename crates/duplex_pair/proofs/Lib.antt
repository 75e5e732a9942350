pub mod Composing
pub mod FirstLevel
pub mod Mends
pub mod Numbers
pub mod Chosen
pub mod FindActs
pub mod ActCounting
