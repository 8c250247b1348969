pub mod QuantumLemmas
pub mod EncodingLemmas
pub mod BeatLemmas
pub mod ClickLemmas
pub mod MetronomeLemmas
