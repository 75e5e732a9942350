pub mod Bare
pub mod Judging
pub mod Starting
pub mod Inspecting
pub mod Spooled
pub mod Takeover
