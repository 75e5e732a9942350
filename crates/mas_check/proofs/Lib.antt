pub mod CountLemmas
pub mod WorldLemmas
pub mod GroupLemmas
pub mod TallyLemmas
pub mod CheckLemmas
