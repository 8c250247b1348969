pub mod LineLemmas
pub mod WordLemmas
pub mod NumberLemmas
pub mod EndpointLemmas
pub mod LineWordLemmas
