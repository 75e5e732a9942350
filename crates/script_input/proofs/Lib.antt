pub mod Rest
pub mod ScriptLemmas
pub mod TypeLemmas
