pub mod Commands
pub mod TempoText
pub mod Asks
pub mod Reasons
pub mod Views
pub mod Answers
