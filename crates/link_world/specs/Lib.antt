pub mod Stored
pub mod World
pub mod Made
pub mod Round
pub mod Apart
pub mod Agreement
pub mod Standing
