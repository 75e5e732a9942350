pub mod ToldUnits
pub use Rattle.job_select.proofs.BehindLemmas
pub use Rattle.job_select.proofs.CodedSlots
pub use Rattle.queue_commands.proofs.LawLemmas
pub use Rattle.queue_commands.proofs.OrderLemmas
pub use Rattle.queue_commands.proofs.SoundTables
pub use Rattle.queue_commands.proofs.ToldLemmas
