pub mod ControlSetup
pub mod AllSeen
pub mod ControlEnds
pub mod Ends
