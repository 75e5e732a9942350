pub mod Works
pub mod Plays
pub mod Parts
pub mod Kept
pub use Rattle.member_asides.specs.Asides
pub use Rattle.member_asides.specs.Ready
pub use Rattle.member_work.specs.Work
pub mod Names
