pub mod StepLemmas
pub mod HitLemmas
pub mod SoundLemmas
pub mod PatternLemmas
pub mod WavLemmas
