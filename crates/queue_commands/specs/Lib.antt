pub mod Given
pub use Rattle.queue_effect.specs.Standing
pub use Rattle.queue_tables.specs.Laws
pub use Rattle.queue_effect.specs.Orders
pub use Rattle.queue_effect.specs.Telling
pub use Rattle.queue_effect.specs.Outputs
