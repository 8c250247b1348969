mod LineLemmas
pub mod OutletLemmas
mod ReplayingLemmas
pub mod ReplayLemmas
pub mod HexLineLemmas
pub mod DecodeLemmas
pub mod PairLineLemmas
pub mod FilterLemmas
mod LoadLemmas
mod MidiLemmas
