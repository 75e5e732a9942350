pub mod Reports
pub mod Naming
