pub mod FrameLemmas
pub mod SpokenLemmas
pub mod BeforeLemmas
pub mod PrepareLemmas
pub mod HistoryLemmas
