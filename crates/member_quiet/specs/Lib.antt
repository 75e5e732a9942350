pub mod Quiet
pub mod Standing
pub use Rattle.member_sittings.specs.Gates
pub use Rattle.member_sittings.specs.Whole
