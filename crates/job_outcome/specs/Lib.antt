pub mod Meaning
pub mod Outcomes
pub mod Next
pub mod Ending
