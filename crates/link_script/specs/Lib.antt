pub mod FirstFault
pub mod ReplayScript
pub mod LiveScript
