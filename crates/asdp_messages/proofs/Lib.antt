pub mod HeaderLemmas
pub mod AliveLemmas
pub mod DatagramLemmas
pub mod OneLemmas
pub mod SentLemmas
pub mod ReadingLemmas
pub mod FunctionLemmas
