mod SentLemmas
mod PlayedLemmas
mod SessionLemmas
mod WordLemmas
