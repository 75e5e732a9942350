pub mod TaskLemmas
pub mod SayLemmas
pub mod ReportLemmas
pub mod PlayLemmas
pub mod CheckLemmas
pub mod ExtendLemmas
pub mod GenerateLemmas
pub mod CompleteLemmas
