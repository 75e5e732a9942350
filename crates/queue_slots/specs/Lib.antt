pub mod Listed
pub mod Best
pub mod Telling
pub mod Keys
