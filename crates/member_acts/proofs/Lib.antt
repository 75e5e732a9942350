pub mod ReadLemmas
pub mod GoneLemmas
pub mod InkedLemmas
pub mod Shown
pub mod BriefLemmas
pub mod Names
