use Rattle.std.proofs.Common.{◌∙◌}
use Rattle.std.proofs.lemmas.Int.{to_z-of_z}
use mir.Syntax.{w64}
use Rattle.link_midi.proofs.SendingLemmas.{not_running, events_at-added, running_then, running_else}
use Rattle.link_midi.specs.Events.{wants_at, is_sixteenth}
use Rattle.link_midi.proofs.sending.send.Goals as goal

pub returns-then-running-clause-sent : goal.returns-then-running-clause-sent
returns-then-running-clause-sent c =
    let is = simp (to_z-of_z w64 _ c.ranges.at, to_z-of_z w64 _ c.ranges.pulse) at c.begins-begins.ensures in
    let opened = simp (to_z-of_z w64 _ c.ranges.at, to_z-of_z w64 _ c.ranges.pulse) at c.opening.ensures.sent in
    let pushed = simp (to_z-of_z w64 _ c.ranges.at) at c.push.ensures.items in
    events_at-added c.args.state.now c.args.running c.args.at c.args.pulse c.begins-begins.result c.args.events.now.items c.opening.new.events.items c.push.new.self.items c.requires.pulse is opened pushed c.requires.wanted c.requires.pulses

pub returns-else-running-clause-sent : goal.returns-else-running-clause-sent
returns-else-running-clause-sent c =
    let is = simp (to_z-of_z w64 _ c.ranges.at, to_z-of_z w64 _ c.ranges.pulse) at c.begins-begins.ensures in
    let opened = simp (to_z-of_z w64 _ c.ranges.at, to_z-of_z w64 _ c.ranges.pulse) at c.opening.ensures.sent in
    let pushed = simp (to_z-of_z w64 _ c.ranges.at) at c.push.ensures.items in
    events_at-added c.args.state.now c.args.running c.args.at c.args.pulse c.begins-begins.result c.args.events.now.items c.opening.new.events.items c.push.new.self.items c.requires.pulse is opened pushed c.requires.wanted c.requires.pulses

pub returns-then-running-clause-runs : goal.returns-then-running-clause-runs
returns-then-running-clause-runs c = c.if-running.true ∙ running_then c.args.state.now c.args.running c.args.at c.if-running.true c.requires.wanted c.requires.pulses

pub returns-else-running-clause-runs : goal.returns-else-running-clause-runs
returns-else-running-clause-runs c =
    let is = simp (to_z-of_z w64 _ c.ranges.at, to_z-of_z w64 _ c.ranges.pulse) at c.begins-begins.ensures in
    running_else c.args.state.now c.args.running c.args.at c.args.pulse c.begins-begins.result c.if-running.false c.requires.pulse is c.requires.wanted c.requires.pulses

pub opening-requires-clause-space : goal.opening-requires-clause-space
opening-requires-clause-space c =
    let is = simp (to_z-of_z w64 _ c.ranges.at, to_z-of_z w64 _ c.ranges.pulse) at c.begins-begins.ensures in
    λ begun. c.requires.space (not_running c.args.running (wants_at c.args.state.now c.args.at) (is_sixteenth c.args.pulse) c.begins-begins.result is begun)
