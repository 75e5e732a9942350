pub mod Volumes
pub mod Texts
pub mod Laws
pub mod Looks
