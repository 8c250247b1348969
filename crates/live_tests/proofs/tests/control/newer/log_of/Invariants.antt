use Rattle.live_tests.proofs.tests.control.newer.log_of.Given as goal

abbrev pub ghosts-served_late-N-LinkName : goal.ghosts-served_late-N-LinkName
ghosts-served_late-N-LinkName g a = record {
  app_states = a.parts.app_states;
  audio_states = a.parts.audio_states;
  audio_commits = a.parts.audio_commits;
  queue = a.parts.queue;
  whole = a.parts.shares;
}

abbrev pub ghosts-served_late-N-Ledger : goal.ghosts-served_late-N-Ledger
ghosts-served_late-N-Ledger g a = record { name = a.parts.ledger; parts = a.parts.shares }
