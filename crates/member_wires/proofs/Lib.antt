mod OnLine
mod Reading
mod Exchanging
pub use Rattle.member_acts.proofs.Shown
