-- What is left when a link ends.
use Rattle.std.specs.Prelude.{◌≡◌, ℕ, ℤ, List, [], ◌∷◌, ◌++◌, length, map, Bool, true, false, All}
use mathlib.Core.Option.{some}
use lib.ListN.{get_elem?}
use Rattle.audio_handoff.specs.Cell.{Pair, Grows}
use Rattle.client_state.specs.Words.{state_of_words}
use Rattle.client_state.specs.declared.commit.Commit.{Commit}
use Rattle.client_state.specs.declared.state.State.{State}
use Rattle.link_node.specs.Event.{EventValue, App, End, SendingValue}
use Rattle.link_node.specs.Runs.{AreFitting, published_of}
use Rattle.link_shared.specs.Audio.{AudioView}
use Rattle.link_shared.specs.Hub.{HubView, opening_of, machine_of, read_events}
use Rattle.link_shared.specs.Journal.{IsOffered, AreCarried, app_commits_in, last_audio_in}
use Rattle.link_shared.specs.Passes.{AppView}

-- Rule: Each state that the audio thread or an application read is one that was published, whole and under its number.
abbrev pub WerePublished : List State → List Pair → Type 0
WerePublished published seen =
    (k : ℕ) (pair : Pair) → get_elem? seen k ≡ some pair → get_elem? published pair.0 ≡ some (state_of_words pair.1)

abbrev pub app_events : ℤ → List Commit → List EventValue
app_events now commits = map (λ commit. App commit now) commits

-- What an application knew: it read states published, its commits pushed are the first of all, and where its pass was the only one all are
-- its own
pub record HasHeard (published : List State) (pushed : List Commit) (pass : AppView) : Type 0 where
  pub seen : WerePublished published pass.seen
  pub begins : Grows pass.pushed pushed
  pub sole : pass.sole ≡ true → pass.made ≡ length pushed

-- Rule: The last turn offers the last audio commit, each commit left in the queue and then the end, at which the byes are sent.
-- The last turn offers the last audio commit made, where it wasn't taken, commits that the queue still holds, and the end. Then all is
-- known of the passes handed in: every commit that one of them knew to be pushed stands in the journal once, in the order of their numbers,
-- and of the audio commits those that do carry what was made under their numbers, which rise, the last one made among them. Where an event
-- found no room, so much of this as there was room for. What was published is what a replay of the journal publishes, and all that was read
-- is of it.
pub record HasEnded (before : HubView) (audio : AudioView) (now : ℤ) (events : List EventValue) (published : List State) (sends : List SendingValue) (full : Bool) : Type 0 where
  pub last : Pair
  pub rest : List Commit
  pub offered : IsOffered (opening_of before) before.most
      ((read_events now (machine_of before).audio last ++ app_events now rest) ++ End now ∷ [])
      before.journal events [] sends full
  pub fits : AreFitting (length before.config.gates) 0 0 events
  pub published_are : published ≡ published_of before.config before.opened_at events
  -- of the applications' commits
  pub pushed : List Commit
  pub pushed_are : pushed ≡ before.popped ++ rest
  pub taken_begin : Grows (app_commits_in events) pushed
  pub all_taken : full ≡ false → app_commits_in events ≡ pushed
  pub heard : All (HasHeard published pushed) before.handed
  -- of the audio thread's
  pub last_is : last.0 ≡ length audio.made
  pub carried : AreCarried audio.made events
  pub last_taken : full ≡ false → last_audio_in 0 events ≡ length audio.made
  pub audio_seen : WerePublished published audio.seen
