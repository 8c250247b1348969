pub mod Words
pub mod Secret
pub mod Telling
pub mod Journal
pub mod Gates
pub mod Spans
pub mod Statuses
pub mod Session
