use Rattle.live_tests.proofs.tests.shared.try_new_link.Given as goal

abbrev pub ghosts-try_link-N-LinkName : goal.ghosts-try_link-N-LinkName
ghosts-try_link-N-LinkName g a = record {
  app_states = a.parts.app_states;
  audio_states = a.parts.audio_states;
  audio_commits = a.parts.audio_commits;
  queue = a.parts.queue;
  whole = a.parts.shares;
}

abbrev pub ghosts-try_link-N-Ledger : goal.ghosts-try_link-N-Ledger
ghosts-try_link-N-Ledger g a = record { name = a.parts.ledger; parts = a.parts.shares }
