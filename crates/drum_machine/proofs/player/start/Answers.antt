use Rattle.std.proofs.Common.{w64}
use Rattle.std.proofs.lemmas.Int.{to_z-of_z}
use Rattle.drum_machine.proofs.PlayerLemmas.{has_played_one, has_played_start, has_started_none, has_started_one}
use Rattle.drum_machine.proofs.player.start.Goals as goal

pub returns-then-capture : goal.returns-then-capture
returns-then-capture g c = record {
  played = has_played_one _ _ _ _ _ c.capture_audio-capture.ensures.read;
  started = has_started_none c.args.at _ _ _ _ _ c.if-capture.true c.capture_audio-capture.ensures.read;
}

pub returns : goal.returns
returns g c = record {
  played = has_played_start _ _ _ _ _ _ _ c.capture_audio-capture.ensures.read c.edit.ensures;
  started = has_started_one c.args.at _ _ _ _ _ _ _ (to_z-of_z w64 c.args.at (record { sfits = c.ranges.at.sfits })) c.if-capture.false
      c.capture_audio-capture.ensures.read c.edit.ensures;
}
