use Rattle.live_tests.proofs.tests.live.full_queue.quit_late.Given as goal

abbrev pub ghosts-quit_over-N-LinkName : goal.ghosts-quit_over-N-LinkName
ghosts-quit_over-N-LinkName g a = record {
  app_states = a.parts.app_states;
  audio_states = a.parts.audio_states;
  audio_commits = a.parts.audio_commits;
  queue = a.parts.queue;
  whole = a.parts.shares;
}

abbrev pub ghosts-quit_over-N-Ledger : goal.ghosts-quit_over-N-Ledger
ghosts-quit_over-N-Ledger g a = record { name = a.parts.ledger; parts = a.parts.shares }
