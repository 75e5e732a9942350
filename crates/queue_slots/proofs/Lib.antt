pub mod Cases
pub mod Rising
pub mod FirstSlots
pub mod BestSlots
pub mod Changes
pub mod Alike
pub mod Keys
pub mod Founds
