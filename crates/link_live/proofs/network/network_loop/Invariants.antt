use Rattle.std.proofs.Common.{◌≡◌, false}
use Rattle.link_live.specs.Network.{HasCause}
use Rattle.link_live.specs.Running.{IsRunning}
use Rattle.link_live.proofs.network.network_loop.Given as goal

abbrev pub invariant-loop : goal.invariant-loop
invariant-loop g l = record {
  goes : (goal.iterator-loop g).can_next l.iterator' × (goal.iterator-loop g).is_finite l.iterator';
  run : IsRunning l.initial.hub l.hub (g.P.Port.seen l.initial.port).told (g.P.Port.seen l.port).told l.line false;
  cause : HasCause l.fn.bound (g.P.Port.seen l.initial.port) (g.P.Port.seen l.port) l.line.failed;
  gates : (g.P.Port.seen l.port).gates ≡ (g.P.Port.seen l.initial.port).gates;
  config : l.hub.config ≡ l.initial.hub.config;
}
