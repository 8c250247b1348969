pub mod LifeLemmas
pub mod OutcomeLemmas
pub mod AccuracyLemmas
