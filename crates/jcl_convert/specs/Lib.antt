pub mod Steps
pub mod Execs
pub mod Dds
pub mod Jcl
