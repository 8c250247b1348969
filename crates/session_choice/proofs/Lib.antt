pub mod Lists
pub mod BestLemmas
pub mod WinningLemmas
pub mod KeyedLemmas
pub mod DistinctLemmas
pub mod TableLemmas
pub mod OthersLemmas
pub mod MeasuredLemmas
