mod CommandLemmas
mod CommandWordLemmas
mod ValueWordLemmas
mod OptionLemmas
mod LiveWordLemmas
mod EndpointWordLemmas
mod ControlWordLemmas
pub mod NameLemmas
