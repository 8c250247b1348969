pub mod Answers
pub mod Outbox
pub mod Greeting
pub mod Places
pub mod Seat
pub mod Hears
pub mod Waits
pub mod Sighting
