use Rattle.std.proofs.Common.{ℤ, map, sym, subst, arith, w64}
use Rattle.std.proofs.lemmas.Int.{to_z-of_z}
use Rattle.std.proofs.lemmas.List.{length-map}
use Rattle.link_node.specs.Config.{config_value}
use Rattle.link_node.specs.Event.{event_value}
use Rattle.link_live.specs.LiveRun.{EndsLiveRun, setup_of, told_of}
use Rattle.link_live.specs.NodeRun.{IsNodeRun}
use Rattle.link_live.specs.declared.run.LiveEnd.{LiveEnd}
use Rattle.link_live.proofs.AskLemmas.{moment_fits}
use Rattle.link_live.proofs.CloseLemmas.{can_play, can_take, plays_few, run_ends}
use Rattle.link_live.proofs.run.live_run.Goals as goal

pub run_node-requires-clause-audio : goal.run_node-requires-clause-audio
run_node-requires-clause-audio g c κs within = can_play _ _ _ c.requires.ready

pub run_node-requires-clause-app : goal.run_node-requires-clause-app
run_node-requires-clause-app g c κs within = can_take _ _ _ c.requires.ready

pub returns-clause-ends : goal.returns-clause-ends
returns-clause-ends g c =
    let run = c.in_ok-run.ensures.run in
    let left = c.in_ok-run.run' in
    let node =
    subst
    (λ (n : ℤ).
    IsNodeRun (config_value c.args.config.now) n c.args.events left.failed left.full (g.P.Port.seen c.args.port.now) (g.P.Port.seen c.run_node.new.port)
    run.0 run.1 (map event_value left.events.items) left.published.items)
    (to_z-of_z w64 c.args.opened_at (moment_fits _ c.requires.opening.range)) run.4 in
    subst
    (λ (e : LiveEnd).
    EndsLiveRun (setup_of (config_value c.args.config.now) c.args.events c.args.script.now c.args.blocks) (g.T.Pace.late c.args.pace.now) (g.P.Port.seen c.args.port.now)
    (g.P.Port.seen c.run_node.new.port) (g.A.Audio.seen c.args.audio.now) (g.A.Audio.seen c.run_node.new.device)
    (told_of (config_value c.args.config.now) c.args.opened_at
    (record {
      end = c.end_of.result;
      events = left.events;
      published = left.published;
      audio = c.run_node.new.audio.report;
      script = c.run_node.new.app.report;
    }))
    e)
    (sym c.end_of.ensures)
    (run_ends _ _ _ _ _ _ _ run.1 run.0 _ _ _ _ c.run_node.new.audio.report c.run_node.new.app.report _ _ left.app
    left.failed left.audio left.full c.requires.opening node run.2 run.3)

pub returns-clause-few : goal.returns-clause-few
returns-clause-few g c = omega (
  arith,
  plays_few _ _ _ _ _ _ _ _ _ _ c.in_ok-run.ensures.run.2.run,
  length-map c.run_node.new.audio.report.plays.items (λ clicks. clicks.items),
)
