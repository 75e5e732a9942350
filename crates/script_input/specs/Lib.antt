pub mod Commands
pub mod Played
pub mod Script
pub mod Reading
pub mod Laws
