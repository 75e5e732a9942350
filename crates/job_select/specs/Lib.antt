pub mod Chains
pub mod Best
pub mod Kinds
pub mod Indexes
pub mod Examples
pub mod Behind
