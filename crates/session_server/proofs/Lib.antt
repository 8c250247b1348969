mod WordLemmas
mod GateLemmas
mod HourLemmas
mod SessionLemmas
