use Rattle.std.proofs.Common.{◌≡◌, take, vec_capacity}
use Rattle.client_state.specs.State.{IsTidyState}
use Rattle.link_live.specs.PlayingRun.{HasCommitted, IsShownWith}
use Rattle.link_live.proofs.audio.commit_block.Given as goal

abbrev pub invariant-loop-command : goal.invariant-loop-command
invariant-loop-command g l = record {
  committed : HasCommitted l.fn.start l.fn.number (take l.command-index l.fn.commands) l.fn.capture.state l.fn.pass l.pass l.fn.commits.items l.commits.items;
  state : l.capture.state ≡ l.fn.capture.state;
  shown : IsShownWith l.capture l.pass.made;
  tidy : IsTidyState l.capture.shown;
  capacity : vec_capacity l.commits ≡ vec_capacity l.fn.commits;
}
