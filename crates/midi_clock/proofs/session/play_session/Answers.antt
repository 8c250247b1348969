use Rattle.std.proofs.Common.{inr}
use Rattle.midi_clock.proofs.SessionLemmas.{has_session}
use Rattle.midi_clock.proofs.session.play_session.Goals as goal

pub returns-in-Ok : goal.returns-in-Ok
returns-in-Ok g c =
    let run = c.in-Ok.ensures.run in
    let left = c.in-Ok.run' in
    record {
      ends = inr (
        left.audio,
        left.failed,
        left.full,
        c.status_of.ensures,
        has_session _ _ _ _ _ _ _ _ _ _ _ _ _ _ c.args.devices.now.moment c.config_of-config.ensures.value run.3 run.4 run.2,
      );
    }
