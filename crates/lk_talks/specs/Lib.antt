pub mod Talks
pub mod Failures
pub mod Steps
pub mod Sought
pub mod ListTalks
