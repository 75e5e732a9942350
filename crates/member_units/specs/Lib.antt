pub use Rattle.member_giving.specs.Works
pub mod Names
pub mod Nexts
pub mod Actions
