pub mod Raced
pub mod Tops
pub use Rattle.mas_tasks.specs.Tasks
pub use Rattle.mas_tasks.specs.declared.tasks.Task
