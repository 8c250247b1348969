-- How a session ends: by what its loop did, and by what its node recorded.
use Rattle.std.proofs.Common.{◌≡◌, ℕ, ◌*◌, ℤ, pos, ◌+ℤ◌, Bool, true, List, [], ◌∷◌, ◌++◌, length, None, refl, ap, sym, subst, ◌∙◌, arith, length-append}
use Rattle.std.proofs.lemmas.Int.{ints}
use mathlib.Core.Option.{some-ne-none}
use Rattle.audio_handoff.specs.Cell.{NumbersNeverFall}
use Rattle.lk_base.specs.Ranges.{IsMoment}
use Rattle.client_state.specs.declared.commit.Commit.{Commit}
use Rattle.client_state.specs.declared.state.State.{State}
use Rattle.link_node.specs.Config.{ConfigValue}
use Rattle.link_node.specs.Event.{EventValue}
use Rattle.link_shared.specs.Audio.{AudioView}
use Rattle.link_shared.specs.Journal.{AreCarried, app_commits_in}
use Rattle.link_shared.specs.Passes.{AppView}
use Rattle.link_live.specs.Headline.{IsRecorded, new_audio}
use Rattle.link_live.specs.NodeRun.{FitsJournal, IsNodeRun, new_app, recorded_of}
use Rattle.midi_clock.specs.Player.{HasClocked, IsPlayed}
use Rattle.midi_clock.specs.Session.{DevicesSeen, HasSession}
use Rattle.midi_clock.specs.declared.counts.Counts.{Counts}
use Rattle.midi_clock.specs.declared.player.PlayEnd.{PlayEnd}
use Rattle.midi_clock.proofs.PlayedLemmas.{is_stored, stored}

none_read : NumbersNeverFall []
none_read = λ j k first second le e f. absurd (some-ne-none first (sym e))

no_front : (xs ys all : List Commit) → all ≡ xs ++ ys → length all ≡ 0 → xs ≡ []
no_front [] ys all split none = refl
no_front (x ∷ xs) ys all split none = absurd (omega (arith, ap length split, none, length-append (x ∷ xs) ys))

-- where nothing was pushed, no commit of an application stands in the journal
no_app_commit : (full : Bool) (audio : AudioView) (app : AppView) (events : List EventValue) (published : List State)
    → app ≡ new_app → FitsJournal full audio app events published → app_commits_in events ≡ []
no_app_commit full audio app events published idle fits =
    let sole : app.sole ≡ true = ap (λ (view : AppView). view.sole) idle in
    let made : app.made ≡ 0 = ap (λ (view : AppView). view.made) idle in
    no_front (app_commits_in events) fits.app_begin.0 fits.pushed fits.app_begin.1 (sym (fits.heard.sole sole) ∙ made)

-- its opening and its origin are stored
pub has_session : (given config : ConfigValue) (now : ℤ) (before after : DevicesSeen) (events : List EventValue) (published : List State)
    (app : AppView) (pass : AudioView) (seconds : ℕ) (ended : PlayEnd) (failed full : Bool) (counts : Counts)
    → IsMoment now → given ≡ config → app ≡ new_app
    → IsNodeRun given (stored now) 524_288 failed full before.port after.port pass app events published
    → HasClocked (seconds * 500) (stored (stored now +ℤ pos 500_000)) new_audio pass before.midi after.midi counts ended
    → HasSession seconds config now before after ended failed full counts
has_session given config now before after events published app pass seconds ended failed full counts moment config_is idle run clocked =
    let now_is : stored now ≡ now = is_stored now now refl moment.0 (omega (arith, ints, moment.1)) in
    let origin_is : stored (stored now +ℤ pos 500_000) ≡ now +ℤ pos 500_000 =
    is_stored _ (now +ℤ pos 500_000) (ap (λ (t : ℤ). t +ℤ pos 500_000) now_is) (omega (arith, ints, moment.0)) (omega (arith, ints, moment.1)) in
    let Played : ℤ → PlayEnd → Type 0 = λ origin end. IsPlayed (seconds * 500) origin new_audio pass before.midi.told after.midi.told counts end in
    let Recorded : ConfigValue → ℤ → Type 0 = λ c n.
    IsRecorded c 524_288 None failed full before.port.told after.port.told after.port.gates (recorded_of c n events published) in
    let played : Played (now +ℤ pos 500_000) ended = subst (λ (origin : ℤ). Played origin ended) origin_is clocked.played in
    record {
      pass = pass;
      recorded = record {
        events = events;
        published = published;
        recorded = subst (λ (c : ConfigValue). Recorded c now) config_is (subst (λ (n : ℤ). Recorded given n) now_is run.recorded);
        reads = run.fits.reads;
        never_falls = clocked.read.never_falls none_read;
        no_audio_commit = subst (λ (made : List Commit). AreCarried made events) clocked.read.made run.fits.audio_commits;
        no_app_commit = no_app_commit full pass app events published idle run.fits;
      };
      whole = λ is. subst (Played (now +ℤ pos 500_000)) is played;
      cut = λ is. subst (Played (now +ℤ pos 500_000)) is played;
      cause = clocked.cause;
      port_works = run.works;
      port_fails = run.fails;
    }
