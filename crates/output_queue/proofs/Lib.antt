pub mod OutputLemmas
pub mod PrinterLemmas
