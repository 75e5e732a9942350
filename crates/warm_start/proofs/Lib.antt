pub mod Orders
pub mod Bared
pub mod Seeing
pub mod Finding
pub mod Starts
pub mod Inspections
pub mod Again
pub mod Begun
mod Brought
pub mod Prepared
pub mod Spooling
pub mod SoundTold
pub mod Taking
