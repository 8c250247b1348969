pub mod OneStatus
pub mod ValidInput
