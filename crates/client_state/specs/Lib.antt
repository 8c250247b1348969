pub mod State
pub mod Edits
pub mod Commit
pub mod Shown
pub mod Timelines
pub mod Starts
pub mod Words
pub mod Unclipped
