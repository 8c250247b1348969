pub mod Points
pub mod Life
pub mod Accuracy
