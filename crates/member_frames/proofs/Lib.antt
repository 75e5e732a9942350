mod Loaded
mod Bounded
mod Answered
mod Idle
mod Offering
mod Fronts
mod TurnLemmas
mod Sending
mod SatLemmas
mod Arriving
mod Getting
pub use Rattle.member_giving.proofs.Sat
