use Rattle.std.proofs.Common.{◌-◌, ◌≤◌, ◌≡◌}
use Rattle.midi_clock.specs.Player.{HasOnlyRead}
use Rattle.midi_clock.proofs.PlayedLemmas.{IsPlaying}
use Rattle.midi_clock.proofs.player.play.Given as goal

abbrev pub invariant-loop-number : goal.invariant-loop-number
invariant-loop-number g l = record {
  read : HasOnlyRead l.fn.pass l.pass;
  within : l.number ≤ l.blocks;
  playing : IsPlaying l.number l.origin l.clock l.fn.pass l.pass (g.M.Sink.seen l.fn.midi).told (g.M.Sink.seen l.midi).told l.tally.counts;
  works : (g.M.Sink.seen l.midi).faults ≡ (g.M.Sink.seen l.fn.midi).faults;
}

abbrev pub decreases-loop-number : goal.decreases-loop-number
decreases-loop-number g l = l.blocks - l.number
