pub mod ToldLemmas
pub mod Lists
pub mod OrderLemmas
pub mod SoundTables
