pub mod Messages
pub mod Pulse
pub mod Events
pub mod Pairs
pub mod Progress
