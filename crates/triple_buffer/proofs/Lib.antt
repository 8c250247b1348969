pub mod RowLists
pub mod SeatFinds
pub mod OpeningStep
pub mod WriterSteps
pub mod ReaderSteps
pub mod CatchUp
pub mod NoteSteps
pub mod Endings
