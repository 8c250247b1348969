use Rattle.std.proofs.Common.{◌≡◌, take}
use Rattle.lk_outside.specs.Sink.{Appends}
use Rattle.midi_clock.specs.Player.{CountsMore}
use Rattle.midi_clock.specs.Sent.{midi_bytes_of}
use Rattle.midi_clock.proofs.sending.send.Given as goal

abbrev pub invariant-loop-event : goal.invariant-loop-event
invariant-loop-event g l = record {
  sent : Appends (g.M.Sink.seen l.fn.midi).told (midi_bytes_of (take l.event-index l.events)) (g.M.Sink.seen l.midi).told;
  counted : CountsMore (take l.event-index l.events) l.fn.tally.counts l.tally.counts;
  faults : (g.M.Sink.seen l.midi).faults ≡ (g.M.Sink.seen l.fn.midi).faults;
}
