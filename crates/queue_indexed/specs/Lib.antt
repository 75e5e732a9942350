pub use Rattle.job_select.specs.Behind
pub use Rattle.job_select.specs.Indexes
pub use Rattle.job_select.specs.declared.index.Index
pub use Rattle.job_select.specs.declared.kept.KeptIndex
pub use Rattle.queue_commands.specs.Given
pub use Rattle.queue_commands.specs.Laws
pub use Rattle.queue_commands.specs.Standing
