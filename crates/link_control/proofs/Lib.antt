pub mod CutLemmas
mod TextLemmas
mod EntryLemmas
mod PaceLemmas
pub mod AmongLemmas
pub mod UsedLemmas
mod ServingLemmas
mod HeardLemmas
pub mod ClientLemmas
pub mod TellLemmas
pub mod RunLemmas
pub mod CourseLemmas
