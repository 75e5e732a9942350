pub mod StepLemmas
pub mod Data
