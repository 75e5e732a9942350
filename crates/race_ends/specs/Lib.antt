pub mod Before
pub mod Histories
pub mod Prepared
