-- That the state published last shows a client's timeline which follows the session, throughout a run.
use Rattle.std.proofs.Common.{◌≡◌, ℤ, true, List, [], ◌∷◌, refl, sym, ap, ◌∙◌}
use Rattle.std.specs.Prelude.{◌&&◌, if◌then◌else◌}
use Rattle.std.specs.Ordering.{int_eq}
use Rattle.std.proofs.lemmas.Bool.{and_parts}
use Rattle.std.proofs.lemmas.Bool.Decides.{Decides-int_eq}
use Rattle.lk_base.specs.Ranges.{IsMoment}
use Rattle.lk_base.specs.declared.timeline.Timeline.{Timeline}
use Rattle.session_choice.specs.Best.{IsBest, best_of}
use Rattle.client_state.specs.Commit.{same_timeline}
use Rattle.link_node.specs.Config.{ConfigValue}
use Rattle.link_node.specs.Event.{EventValue}
use Rattle.link_node.specs.Machine.{Machine}
use Rattle.link_node.specs.Opening.{opened}
use Rattle.link_node.specs.Publishing.{alike, shown, state_in}
use Rattle.link_node.specs.Runs.{machine_after, replayed}
use Rattle.link_node.specs.Staying.{ShowsBest}
use Rattle.link_node.specs.Step.{before_shown, step_of}
use Rattle.session_choice.proofs.Lists.{by_test}
use Rattle.link_node.proofs.FollowingLemmas.{opened-follows, step-follows}

timeline-same : (a b : Timeline) → same_timeline a b ≡ true → a ≡ b
timeline-same a b is =
    let tests = and_parts (int_eq a.mpb b.mpb) (int_eq a.beat b.beat && int_eq a.time b.time) is in
    let origins = and_parts (int_eq a.beat b.beat) (int_eq a.time b.time) tests.1 in
    let line : ℤ → ℤ → ℤ → Timeline = λ mpb beat time. record { mpb = mpb; beat = beat; time = time } in
    ap (λ n. line n a.beat a.time) ((Decides-int_eq a.mpb b.mpb).0 tests.0)
    ∙ ap (λ n. line b.mpb n a.time) ((Decides-int_eq a.beat b.beat).0 origins.0)
    ∙ ap (λ n. line b.mpb b.beat n) ((Decides-int_eq a.time b.time).0 origins.1)

-- what is published last shows the client's timeline, whether or not it is published now
shown-shows : (m : Machine) → (shown m).published.timeline ≡ (shown m).client
unfolding shown alike
shown-shows m =
    by_test
    (λ b. alike (state_in m) m.published ≡ b
    → (if b then m else record m { published = state_in m }).published.timeline ≡ (if b then m else record m { published = state_in m }).client)
    (alike (state_in m) m.published)
    (λ _ is. sym (timeline-same m.client m.published.timeline (and_parts _ _ is).0))
    (λ _ _. refl)
    refl

pub step-shows : (m : Machine) (e : EventValue) → (step_of m e).published.timeline ≡ (step_of m e).client
unfolding step_of
step-shows m e = shown-shows (before_shown e m)

module _ (there : (first : Timeline) (later : List Timeline) → IsBest (first ∷ later) (best_of first later)) (one : (list : List Timeline) (a b : Timeline) → IsBest list a → IsBest list b → a ≡ b) where
  run-shows : (m : Machine) (es : List EventValue) → ShowsBest m → ShowsBest (machine_after m es)
  unfolding machine_after
  run-shows m [] shows = shows
  run-shows m (e ∷ es) shows =
      run-shows (step_of m e) es (record { following = step-follows there one m e shows.following; shown = step-shows m e })

  opened-shows : (config : ConfigValue) (now : ℤ) → (opened config now).published.timeline ≡ (opened config now).client
  unfolding opened
  opened-shows config now = refl

  pub replayed-shows : (config : ConfigValue) (now : ℤ) (es : List EventValue) → IsMoment now → ShowsBest (replayed config now es)
  replayed-shows config now es is =
      run-shows (opened config now) es (record { following = opened-follows there one config now is; shown = opened-shows config now })
