pub mod GhostTime
pub mod Rank
