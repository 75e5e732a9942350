pub mod Ready
pub mod Asides
pub use Rattle.member_sittings.specs.Whole
pub use Rattle.member_sittings.specs.Left
pub use Rattle.member_sittings.specs.Sat
pub use Rattle.member_sittings.specs.Shapes
pub use Rattle.member_sittings.specs.Tight
pub use Rattle.member_sittings.specs.declared.ends.SittingEnd
