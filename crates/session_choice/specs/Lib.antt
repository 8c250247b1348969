pub mod Best
pub mod Winning
pub mod Keyed
pub mod History
pub mod Table
pub mod Changes
pub mod Kept
