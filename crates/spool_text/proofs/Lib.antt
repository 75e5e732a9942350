mod Lists
mod Grouping
mod Sizes
mod RecordLemmas
mod GroupSteps
mod TextRuns
