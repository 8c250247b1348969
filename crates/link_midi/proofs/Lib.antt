pub mod PulseLemmas
pub mod PulseTimeLemmas
pub mod EventLemmas
pub mod CountLemmas
pub mod ProgressLemmas
pub mod SendingLemmas
pub mod PairLemmas
