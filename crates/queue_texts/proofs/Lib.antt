pub mod LeftLemmas
pub mod OwnLemmas
pub mod EnteredLemmas
pub mod BroughtLemmas
