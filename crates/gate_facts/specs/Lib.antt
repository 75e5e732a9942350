pub mod Values
pub mod Memory
pub mod Laws
pub mod Ways
