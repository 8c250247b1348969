pub mod Lines
pub mod Words
pub mod LineWords
pub mod Line
