pub mod Happenings
pub mod Answers
pub mod Expiry
pub mod Table
pub mod Order
pub mod Picks
