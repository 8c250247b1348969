pub mod CellLists
pub mod SeqSteps
