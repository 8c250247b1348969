use Rattle.link_live.proofs.node_run.run_node.Given as goal

abbrev pub ghosts-run_parts-N-LinkName : goal.ghosts-run_parts-N-LinkName
ghosts-run_parts-N-LinkName g a = record {
  app_states = a.parts.app_states;
  audio_states = a.parts.audio_states;
  audio_commits = a.parts.audio_commits;
  queue = a.parts.queue;
  whole = a.parts.shares;
}

abbrev pub ghosts-run_parts-N-Ledger : goal.ghosts-run_parts-N-Ledger
ghosts-run_parts-N-Ledger g a = record { name = a.parts.ledger; parts = a.parts.shares }
