pub mod Places
pub mod Entered
pub mod Ends
