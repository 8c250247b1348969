use Rattle.drum_machine.proofs.rehearsal.rehearse.Given as goal

abbrev pub ghosts-rehearse_bars-N-LinkName : goal.ghosts-rehearse_bars-N-LinkName
ghosts-rehearse_bars-N-LinkName g a = record {
  app_states = a.parts.app_states;
  audio_states = a.parts.audio_states;
  audio_commits = a.parts.audio_commits;
  queue = a.parts.queue;
  whole = a.parts.shares;
}

abbrev pub ghosts-rehearse_bars-N-Ledger : goal.ghosts-rehearse_bars-N-Ledger
ghosts-rehearse_bars-N-Ledger g a = record { name = a.parts.ledger; parts = a.parts.shares }
