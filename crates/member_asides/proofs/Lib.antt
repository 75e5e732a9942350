pub use Rattle.member_sittings.proofs.AsideLemmas
pub use Rattle.member_sittings.proofs.ReachLemmas
pub use Rattle.member_sittings.proofs.SeatLemmas
pub use Rattle.member_sittings.proofs.Staying
