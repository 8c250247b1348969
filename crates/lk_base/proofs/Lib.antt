pub mod RoundingLemmas
pub mod ByteLemmas
mod OrderLemmas
