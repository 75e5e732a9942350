pub mod Causing
pub mod Spreading
pub mod Forming
pub mod Calm
