use Rattle.std.proofs.Common.{◌≤◌, ◌∙◌, length, refl, arith}
use Rattle.link_node.specs.Event.{event_value}
use Rattle.link_commands.proofs.OutletLemmas.{on_failure}
use Rattle.link_commands.proofs.ReplayLemmas.{handed_none, says_some, next_fits, few_so_far, handed_more, handed_part, handed_whole, counted_whole, less_left}
use Rattle.link_commands.proofs.replay.Replay.hand_events.Goals as goal

pub loop-event-init : goal.loop-event-init
loop-event-init g c = record {
  version = refl;
  handed = λ m es on. handed_none _ _ _ _ _ c.args.text.now c.args.self.now.first _ _ m es on;
  few_states = omega arith;
  few_sends = omega arith;
  quiet = refl;
}

pub next_event-requires : goal.next_event-requires
next_event-requires g c =
    says_some _ _ _ _ _ c.args.text.now c.loop-event.at _ _ _ _ _ _ _ _ _ (c.loop-event.invariant.handed c.requires.says.0 c.requires.says.1 c.requires.says.2)

pub hand_event-requires-clause-event : goal.hand_event-requires-clause-event
hand_event-requires-clause-event g c =
    next_fits c.scripts_fit_nodes.ensures.fit _ _ _ _ _ c.args.text.now c.loop-event.at c.next_event.new.at _ _ _ _ _ _ _ _ _ (event_value c.in-Some.event)
    (c.loop-event.invariant.handed c.requires.says.0 c.requires.says.1 c.requires.says.2) c.in-Some.ensures.some

pub hand_event-requires-clause-few_events : goal.hand_event-requires-clause-few_events
hand_event-requires-clause-few_events g c =
    let few : c.loop-event.counts.events ≤ length c.args.text.now = few_so_far c.scripts_fit_nodes.ensures.few _ _ _ _ _ _ _ _ _ _ c.args.text.now c.loop-event.at _ _ _ _ _ _ _ _ _ c.requires.says.2
    (c.loop-event.invariant.handed c.requires.says.0 c.requires.says.1 c.requires.says.2) in
    omega (arith, c.requires.short)

pub hand_event-requires-clause-few_states : goal.hand_event-requires-clause-few_states
hand_event-requires-clause-few_states g c =
    let few : c.loop-event.counts.events ≤ length c.args.text.now = few_so_far c.scripts_fit_nodes.ensures.few _ _ _ _ _ _ _ _ _ _ c.args.text.now c.loop-event.at _ _ _ _ _ _ _ _ _ c.requires.says.2
    (c.loop-event.invariant.handed c.requires.says.0 c.requires.says.1 c.requires.says.2) in
    omega (arith, c.requires.short, c.loop-event.invariant.few_states)

pub hand_event-requires-clause-few_sends : goal.hand_event-requires-clause-few_sends
hand_event-requires-clause-few_sends g c =
    let few : c.loop-event.counts.events ≤ length c.args.text.now = few_so_far c.scripts_fit_nodes.ensures.few _ _ _ _ _ _ _ _ _ _ c.args.text.now c.loop-event.at _ _ _ _ _ _ _ _ _ c.requires.says.2
    (c.loop-event.invariant.handed c.requires.says.0 c.requires.says.1 c.requires.says.2) in
    omega (arith, c.requires.short, c.loop-event.invariant.few_sends)

pub loop-event-smaller : goal.loop-event-smaller
loop-event-smaller g c =
    less_left _ _ _ _ _ c.args.text.now c.loop-event.at c.next_event.new.at _ _ _ _ _ _ _ _ _ (event_value c.in-Some.event)
    (c.loop-event.invariant.handed c.requires.says.0 c.requires.says.1 c.requires.says.2) c.in-Some.ensures.some

pub loop-event-preserved : goal.loop-event-preserved
loop-event-preserved g c = record {
  version = c.in_ok-hand_event.ensures.version ∙ c.loop-event.invariant.version;
  handed = λ m es on.
      handed_more _ _ _ _ _ _ _ _ _ _ c.args.text.now c.loop-event.at c.next_event.new.at _ _ _ _ _ _ _ _ _ _ _ _ m es (event_value c.in-Some.event)
      (c.loop-event.invariant.handed m es on) c.in-Some.ensures.some c.loop-event.invariant.version
      c.in_ok-hand_event.ensures.stands c.in_ok-hand_event.ensures.gates c.in_ok-hand_event.ensures.app c.in_ok-hand_event.ensures.audio
      c.in_ok-hand_event.ensures.events c.in_ok-hand_event.ensures.states c.in_ok-hand_event.ensures.sends c.in_ok-hand_event.ensures.kept;
  few_states = omega (arith, c.in_ok-hand_event.ensures.events, c.in_ok-hand_event.ensures.few.0, c.loop-event.invariant.few_states);
  few_sends = omega (arith, c.in_ok-hand_event.ensures.events, c.in_ok-hand_event.ensures.few.1, c.loop-event.invariant.few_sends);
  quiet = c.in_ok-hand_event.ensures.quiet ∙ c.loop-event.invariant.quiet;
}

pub returns-in_err-hand_event-clause-part : goal.returns-in_err-hand_event-clause-part
returns-in_err-hand_event-clause-part g c =
    on_failure c.from_residual.result (λ m es on.
    handed_part _ _ _ _ _ _ c.args.text.now c.loop-event.at c.next_event.new.at _ _ _ _ _ _ _ _ m es (event_value c.in-Some.event)
    (c.loop-event.invariant.handed m es on) c.in-Some.ensures.some c.loop-event.invariant.version c.in_err-hand_event.ensures.part)

pub returns-clause-events : goal.returns-clause-events
returns-clause-events g c m es on =
    counted_whole _ _ _ _ _ c.args.text.now c.loop-event.at _ _ _ _ _ _ _ m es (c.loop-event.invariant.handed m es on) c.in_default.ensures.none

pub returns-clause-kept : goal.returns-clause-kept
returns-clause-kept g c m es on =
    handed_whole _ _ _ _ _ c.args.text.now c.loop-event.at _ _ _ _ _ _ _ m es (c.loop-event.invariant.handed m es on) c.in_default.ensures.none
