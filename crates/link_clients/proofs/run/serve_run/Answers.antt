use Rattle.std.proofs.Common.{ℤ, subst, sym, map}
use Rattle.link_node.specs.Config.{config_value}
use Rattle.link_node.specs.Event.{event_value}
use Rattle.link_live.specs.NodeRun.{IsNodeRun}
use Rattle.link_clients.specs.ServeRun.{EndsServeRun, ServeSetup}
use Rattle.link_clients.specs.declared.terms.ServeEnd.{ServeEnd}
use Rattle.link_clients.proofs.LookLemmas.{stored_moment}
use Rattle.link_clients.proofs.RunLemmas.{serve_ends}
use Rattle.link_clients.proofs.run.serve_run.Goals as goal

pub returns-clause-ends : goal.returns-clause-ends
returns-clause-ends g c =
    let run = c.in_ok-run.ensures.run in
    let left = c.in_ok-run.run' in
    let node =
    subst
    (λ (n : ℤ).
    IsNodeRun (config_value c.args.config.now) n c.args.events left.failed left.full (g.P.Port.seen c.args.port.now) (g.P.Port.seen c.run_node.new.port)
    run.0 run.1 (map event_value left.events.items) left.published.items)
    (stored_moment c.args.opened_at c.requires.opening) run.4 in
    let setup : ServeSetup = record { config = config_value c.args.config.now; opened_at = c.args.opened_at; events = c.args.events; at = c.args.at; terms = c.args.terms } in
    subst
    (λ (e : ServeEnd).
    EndsServeRun setup (g.T.Pace.late c.args.rig.now.pace) (g.P.Port.seen c.args.port.now) (g.P.Port.seen c.run_node.new.port) (g.L.Talks.seen c.args.talks.now)
    (g.L.Talks.seen c.run_node.new.first) (map event_value left.events.items) left.published.items e)
    (sym c.end_of.ensures)
    (serve_ends setup _ _ _ _ _ _ _ run.0 run.1 left.app left.failed left.full node run.2 run.3)
