use Rattle.live_tests.proofs.tests.live.script.run.told_by.Given as goal

abbrev pub ghosts-told_of-N-LinkName : goal.ghosts-told_of-N-LinkName
ghosts-told_of-N-LinkName g a = record {
  app_states = a.parts.app_states;
  audio_states = a.parts.audio_states;
  audio_commits = a.parts.audio_commits;
  queue = a.parts.queue;
  whole = a.parts.shares;
}

abbrev pub ghosts-told_of-N-Ledger : goal.ghosts-told_of-N-Ledger
ghosts-told_of-N-Ledger g a = record { name = a.parts.ledger; parts = a.parts.shares }
