mod ReportLemmas
pub mod RunLemmas
mod InputLemmas
mod RecordLemmas
mod LiveLemmas
