use Rattle.std.proofs.Common.{inr, map, subst, arith}
use Rattle.std.proofs.lemmas.Grind.{common_steps}
use Rattle.std.proofs.lemmas.List.{length-map}
use Rattle.link_node.specs.Event.{event_value}
use Rattle.link_clients.specs.ServeRun.{EndsServeRun, ServeSetup}
use Rattle.session_server.proofs.SessionLemmas.{end_passed, moment_passed, same_setup}
use Rattle.session_server.proofs.session.serve_session.Goals as goal

pub returns-in-Ok : goal.returns-in-Ok
returns-in-Ok g c =
    let run = c.in-Ok.run' in
    let Ends : ServeSetup → Type 0 = λ setup. EndsServeRun setup (g.T.Pace.late c.args.rig.now.pace) (g.P.Port.seen c.args.port.now)
    (g.P.Port.seen c.serve_run.new.port) (g.L.Talks.seen c.args.talks.now) (g.L.Talks.seen c.serve_run.new.talks) (map event_value run.events.items)
    run.published.items run.end in
    record {
      ends = inr (
        map event_value run.events.items,
        run.published.items,
        run.end,
        c.status_of.ensures,
        grind (arith, common_steps, c.len.ensures, length-map run.events.items event_value),
        subst Ends
            (same_setup _ _ _ _ _ _ _ _ _ c.config_of-config.ensures.value (moment_passed c.args.opened_at c.requires)
            (end_passed c.args.opened_at c.args.setup.lasts _ c.requires c.args.setup.short c.ends_at.ensures))
            c.in-Ok.ensures.ends,
      );
    }
