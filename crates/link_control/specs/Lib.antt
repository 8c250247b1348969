pub mod Lines
pub mod Log
pub mod Answers
pub mod Serving
pub mod ServingNow
pub mod ControlRun
