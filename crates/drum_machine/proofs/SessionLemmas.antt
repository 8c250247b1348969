-- How a session ends: by what its loop did, and by what its node recorded.
use Rattle.std.proofs.Common.{◌≡◌, ℕ, ℤ, pos, ◌≤ℤ◌, FitsSigned, Bool, false, List, [], None, sym, subst, arith, w64}
use Rattle.std.proofs.lemmas.Int.{ints}
use mathlib.Core.Option.{some-ne-none}
use Rattle.audio_handoff.specs.Cell.{NumbersNeverFall}
use Rattle.client_state.specs.declared.state.State.{State}
use Rattle.link_node.specs.Config.{ConfigValue}
use Rattle.link_node.specs.Event.{EventValue}
use Rattle.link_shared.specs.Audio.{AudioView}
use Rattle.link_shared.specs.Passes.{AppView}
use Rattle.link_live.specs.Headline.{IsRecorded, new_audio}
use Rattle.link_live.specs.NodeRun.{IsNodeRun, recorded_of}
use Rattle.step_sequencer.specs.Sound.{Ages, silent}
use Rattle.step_sequencer.specs.declared.pattern.Pattern.{Pattern}
use Rattle.drum_machine.specs.Player.{HasDrummed, IsPlayed}
use Rattle.drum_machine.specs.Session.{DevicesSeen, HasSession}
use Rattle.drum_machine.specs.declared.callback.Drums.{Drums}
use Rattle.drum_machine.specs.declared.player.PlayEnd.{PlayEnd}

none_read : NumbersNeverFall []
none_read = λ j k first second le e f. absurd (some-ne-none first (sym e))

-- a tempo is a number of 64 bits
pub tempo_fits : (mpb : ℤ) → pos 60_060 ≤ℤ mpb → mpb ≤ℤ pos 3_000_000 → FitsSigned w64 mpb
tempo_fits mpb fastest slowest = grind (arith, ints)

pub has_session : (given config : ConfigValue) (at now : ℤ) (before after : DevicesSeen) (events : List EventValue) (published : List State)
    (app : AppView) (pass : AudioView) (blocks : ℕ) (drums : Drums) (pattern : Pattern) (ended : PlayEnd) (failed full : Bool)
    → given ≡ config → at ≡ now → drums.pattern ≡ pattern → drums.kit ≡ silent → drums.clock ≡ false
    → IsNodeRun given at 262_144 failed full before.port after.port pass app events published
    → HasDrummed blocks drums new_audio pass before.audio after.audio before.sound after.sound before.midi after.midi ended
    → HasSession blocks pattern config now before after ended failed full
has_session given config at now before after events published app pass blocks drums pattern ended failed full config_is now_is pattern_is still stopped run drummed =
    let Played : Pattern → Ages → Bool → PlayEnd → Type 0 = λ played ages running end.
    IsPlayed blocks played ages running before.audio.told after.audio.told new_audio pass before.sound.told after.sound.told before.midi.told after.midi.told end in
    let Recorded : ConfigValue → ℤ → Type 0 = λ c n.
    IsRecorded c 262_144 None failed full before.port.told after.port.told after.port.gates (recorded_of c n events published) in
    let written : Played pattern silent false ended =
    subst (λ (p : Pattern). Played p silent false ended) pattern_is
    (subst (λ (ages : Ages). Played drums.pattern ages false ended) still
    (subst (λ (running : Bool). Played drums.pattern drums.kit running ended) stopped drummed.written)) in
    record {
      pass = pass;
      recorded = record {
        events = events;
        published = published;
        recorded = subst (λ (c : ConfigValue). Recorded c now) config_is (subst (λ (n : ℤ). Recorded given n) now_is run.recorded);
        reads = run.fits.reads;
        never_falls = drummed.played.never_falls none_read;
        commits = run.fits.audio_commits;
        last_commit = run.fits.last_audio_commit;
      };
      whole = λ is. subst (Played pattern silent false) is written;
      part = λ is. subst (Played pattern silent false) is written;
      cut = λ is. subst (Played pattern silent false) is written;
      cause = drummed.cause;
      port_works = run.works;
      port_fails = run.fails;
    }
