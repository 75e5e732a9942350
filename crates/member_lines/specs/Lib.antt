pub mod Admissions
pub mod Earlier
pub mod Closes
pub mod Stops
pub mod Locks
pub mod Resets
pub mod Replaces
pub use Rattle.member_sittings.specs.Sat
