use Rattle.std.proofs.Common.{arith}
use Rattle.link_text.proofs.PlaceLemmas.{counting_end}
use Rattle.link_text.proofs.ScriptLemmas.{events_none, events_more, events_whole}
use Rattle.link_text.proofs.replay_script.events_from.Goals as goal

pub loop-place-init : goal.loop-place-init
loop-place-init c = record { ahead = c.requires.ahead; events = events_none c.args.version c.args.gates _ }

pub loop-place-preserved : goal.loop-place-preserved
loop-place-preserved c = record {
  ahead = c.line_from.ensures.ahead;
  events = events_more c.args.version c.args.gates _ c.loop-place.audio _ _ _ _ _ c.loop-place.invariant.events c.line_from.ensures.line.counting
      c.in-Some.ensures.some.0 c.in-Some.ensures.some.1 c.audio_behind-audio.ensures;
}

pub returns-clause-events : goal.returns-clause-events
returns-clause-events c =
    events_whole c.args.version c.args.gates _ c.loop-place.audio _ c.loop-place.invariant.events
    (counting_end c.args.text.now c.loop-place.place.at (omega (arith, c.loop-place-test.false)))
