pub mod StatusLemmas
mod ControlLemmas
