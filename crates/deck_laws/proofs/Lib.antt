pub mod Known
pub mod Jobs
mod Converting
mod Within
