pub mod Generated
pub mod Summaries
pub mod Examples
pub mod SummaryExamples
