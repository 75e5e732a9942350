pub mod Forms
pub mod Places
pub mod Walks
pub mod Spellings
pub mod Typed
pub mod Read
pub mod Laws
pub mod Written
