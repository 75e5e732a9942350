pub mod Closing
pub mod Earlier
pub mod Holding
pub mod Renewing
pub mod Resetting
pub mod Seating
