pub mod Frames
pub mod Steps
pub mod Pattern
pub mod Sound
pub mod Wav
pub mod Reading
