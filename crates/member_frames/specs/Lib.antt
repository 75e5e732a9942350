pub mod Nexts
pub mod Arriving
pub mod Plays
pub mod Waits
pub use Rattle.member_giving.specs.Asides
pub use Rattle.member_giving.specs.Ready
