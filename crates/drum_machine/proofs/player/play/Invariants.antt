use Rattle.std.proofs.Common.{◌+◌, ◌-◌, ◌≤◌, ◌≡◌}
use Rattle.lk_base.specs.Ranges.{IsMoment}
use Rattle.drum_machine.specs.Player.{HasAsked, HasBegun, HasPlayed}
use Rattle.drum_machine.proofs.PlayedLemmas.{IsPlaying}
use Rattle.drum_machine.proofs.player.play.Given as goal

abbrev pub invariant-loop-number : goal.invariant-loop-number
invariant-loop-number g l = record {
  played : HasPlayed l.fn.pass l.pass;
  within : l.number ≤ l.blocks;
  origin : IsMoment l.drums.origin;
  begun : HasBegun l.drums.origin (g.A.Audio.seen l.fn.audio).told l.fn.pass l.pass;
  asked : HasAsked (l.number + 1) (g.A.Audio.seen l.fn.audio).told (g.A.Audio.seen l.audio).told;
  playing : IsPlaying l.number l.blocks l.fn.drums.pattern l.fn.drums.kit l.fn.drums.clock l.drums l.pass
      (g.W.Sink.seen l.fn.sound).told (g.W.Sink.seen l.sound).told (g.M.Sink.seen l.fn.midi).told (g.M.Sink.seen l.midi).told;
  audio : (g.A.Audio.seen l.audio).faults ≡ (g.A.Audio.seen l.fn.audio).faults;
  sound : (g.W.Sink.seen l.sound).faults ≡ (g.W.Sink.seen l.fn.sound).faults;
  midi : (g.M.Sink.seen l.midi).faults ≡ (g.M.Sink.seen l.fn.midi).faults;
}

abbrev pub decreases-loop-number : goal.decreases-loop-number
decreases-loop-number g l = l.blocks - l.number
