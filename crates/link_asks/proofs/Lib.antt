pub mod TextLemmas
pub mod CommandLemmas
pub mod TempoLemmas
pub mod AskLemmas
pub mod LawLemmas
