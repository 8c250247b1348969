pub mod Words
pub mod Sent
pub mod Telling
pub mod Player
pub mod Statuses
pub mod Session
