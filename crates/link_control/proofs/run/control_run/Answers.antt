use Rattle.std.proofs.Common.{◌≤◌, ◌∙◌, ℤ, List, length, map, sym, ap, subst, w64}
use Rattle.std.proofs.lemmas.Int.{to_z-of_z}
use Rattle.link_node.specs.Config.{config_value}
use Rattle.link_node.specs.Event.{event_value}
use Rattle.link_live.specs.NodeRun.{IsNodeRun}
use Rattle.link_live.proofs.AskLemmas.{moment_fits}
use Rattle.link_control.specs.ControlRun.{EndsControlRun, told_of}
use Rattle.link_control.specs.Log.{captures_in}
use Rattle.link_control.specs.declared.log.LineLog.{LineLog}
use Rattle.link_control.specs.declared.run.ControlEnd.{ControlEnd}
use Rattle.link_control.proofs.ClientLemmas.{few_logged, made_in}
use Rattle.link_control.proofs.RunLemmas.{control_ends}
use Rattle.link_control.proofs.run.control_run.Goals as goal

pub tell_captures-requires-clause-few : goal.tell_captures-requires-clause-few
tell_captures-requires-clause-few g c =
    subst (λ (l : List LineLog). length l ≤ 4_096) (sym c.deref.ensures.value) (few_logged _ _ _ _ _ _ _ c.in_ok-run.ensures.run.3)

pub tell_commits-requires-clause-few : goal.tell_commits-requires-clause-few
tell_commits-requires-clause-few g c =
    subst (λ (l : List LineLog). length l ≤ 4_096) (sym c.deref-2.ensures.value) (few_logged _ _ _ _ _ _ _ c.in_ok-run.ensures.run.3)

pub returns-clause-ends : goal.returns-clause-ends
returns-clause-ends g c =
    let run = c.in_ok-run.ensures.run in
    let left = c.in_ok-run.run' in
    let node =
    subst
    (λ (n : ℤ).
    IsNodeRun (config_value c.args.config.now) n c.args.events left.failed left.full (g.P.Port.seen c.args.port.now) (g.P.Port.seen c.run_node-run.new.port)
    run.0 run.1 (map event_value left.events.items) left.published.items)
    (to_z-of_z w64 c.args.opened_at (moment_fits _ c.requires.opening.range)) run.4 in
    subst
    (λ (e : ControlEnd).
    EndsControlRun (record { config = config_value c.args.config.now; events = c.args.events; at = c.args.at }) (g.T.Pace.late c.args.pace.now)
    (g.P.Port.seen c.args.port.now) (g.P.Port.seen c.run_node-run.new.port) (g.L.Talk.seen c.args.talk.now) (g.L.Talk.seen c.run_node-run.new.first)
    (told_of (config_value c.args.config.now) c.args.opened_at
    (record {
      end = c.end_of.result;
      events = left.events;
      published = left.published;
      captures = c.tell_captures.new.captures;
      commits = c.tell_commits.new.commits;
    }))
    c.run_node-run.new.app.log.lines.items e)
    (sym c.end_of.ensures)
    (control_ends _ _ _ _ _ _ _ _ _ _ _ c.tell_captures.new.captures.items c.tell_commits.new.commits.items c.run_node-run.new.app.log.lines.items run.0 run.1
    left.app left.failed left.full c.requires.opening node run.2 run.3
    (c.tell_captures.ensures ∙ ap captures_in c.deref.ensures.value)
    (c.tell_commits.ensures ∙ ap made_in c.deref-2.ensures.value))
