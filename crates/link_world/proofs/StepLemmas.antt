-- What a step leaves of what it tells, and that what it is stays in the limits of what is told.
use Rattle.std.proofs.Common.{◌≡◌, ◌<◌, ◌+◌, ◌*◌, ◌%◌, ◌⊎◌, inl, inr, ℕ, zero, suc, ℤ, Bool, true, false, List, [], ◌∷◌, Some, refl, sym, ap, subst, ◌∙◌, arith}
use Rattle.std.proofs.lemmas.Int.{ints, clamps}
use Rattle.std.proofs.lemmas.List.FromFn.{length-map-range_with_len}
use Rattle.std.specs.Prelude.{cond, if◌then◌else◌, unwrap_or, option_map, slice_get, IfSome}
use Rattle.std.specs.List.{AllByRecursion, find}
use Rattle.rand_pcg.specs.Lcg.{started, increment_of}
use Rattle.rand_pcg.specs.Pcg.{multiplier_64}
use Rattle.lk_base.specs.Endpoint.{IsEndpoint}
use Rattle.lk_base.specs.Ids.{source_after, word_at}
use Rattle.lk_base.specs.Timeline.{IsTidy}
use Rattle.lk_base.specs.declared.ids.NodeId.{NodeId}
use Rattle.lk_base.specs.declared.timeline.Timeline.{Timeline}
use Rattle.timeline_math.specs.Tidying.{tidy_of, clamped_of}
use Rattle.lk_base.specs.Rounding.{clipped_of}
use Rattle.client_state.specs.Starts.{latest_start_of, is_latest_in}
use Rattle.link_node.specs.Broadcast.{broadcast_after, is_broadcast}
use Rattle.link_node.specs.Config.{GateValue}
use Rattle.link_node.specs.Event.{EventValue, Rx, Tick, App, Audio, End}
use Rattle.link_node.specs.Machine.{Machine, still, start_in, timeline_in}
use Rattle.link_node.specs.Publishing.{shown, alike, state_in}
use Rattle.link_node.specs.Settling.{id_drawn}
use Rattle.link_node.specs.Step.{before_broadcast, before_shown, broadcast_by, step_of}
use Rattle.link_node.specs.WellFormed.{IsMachine, IsInLimits}
use Rattle.link_world.specs.Stored.{IsStoredGate, IsStoredId}
use Rattle.link_world.proofs.LowerLaws.{Laws}
use Rattle.link_world.proofs.Lists.{each}
use Rattle.link_world.proofs.BestLemmas.{best_there}

-- ---- broadcast and publishing leave what is told

pub record TellsAlike (a b : Machine) : Type 0 where
  pub config : a.config ≡ b.config
  pub id : a.id ≡ b.id
  pub sessions : a.sessions ≡ b.sessions
  pub starts : a.starts ≡ b.starts

itself : (a : Machine) → TellsAlike a a
itself a = record { config = refl; id = refl; sessions = refl; starts = refl }

onward : (a b c : Machine) → TellsAlike a b → TellsAlike b c → TellsAlike a c
onward a b c p q = record { config = p.config ∙ q.config; id = p.id ∙ q.id; sessions = p.sessions ∙ q.sessions; starts = p.starts ∙ q.starts }

either : (a : Machine) (test : Bool) (b c : Machine) → TellsAlike a b → TellsAlike a c → TellsAlike a (if test then b else c)
either a true b c p q = p
either a false b c p q = q

after_broadcast : (m : Machine) → TellsAlike m (broadcast_after m)
unfolding broadcast_after
after_broadcast m =
    either m (is_broadcast m) (record m { last_broadcast = Some m.moment; changed = false }) m (record { config = refl; id = refl; sessions = refl; starts = refl }) (itself m)

after_broadcast_by : (e : EventValue) (m : Machine) → TellsAlike m (broadcast_by e m)
after_broadcast_by (Rx gate from bytes now) m = itself m
after_broadcast_by (Tick now) m = after_broadcast m
after_broadcast_by (App commit now) m = itself m
after_broadcast_by (Audio number commit now) m = itself m
after_broadcast_by (End now) m = itself m

after_shown : (m : Machine) → TellsAlike m (shown m)
unfolding shown
after_shown m =
    either m (alike (state_in m) m.published) m (record m { published = state_in m }) (itself m) (record { config = refl; id = refl; sessions = refl; starts = refl })

pub after_step : (m : Machine) (e : EventValue) → TellsAlike (before_broadcast e m) (step_of m e)
unfolding step_of before_shown
after_step m e =
    let a = before_broadcast e m in
    let b = broadcast_by e a in
    onward a b (shown b) (after_broadcast_by e a) (after_shown b)

-- ---- ids

pub drawn_stored : (seed drawn : ℕ) → IsStoredId (id_drawn seed drawn)
unfolding id_drawn
drawn_stored seed drawn =
    let source = source_after (8 * drawn) (started 64 multiplier_64 seed (increment_of 64 0)) in
    length-map-range_with_len {X = ℕ} (λ k. 33 + word_at k source % 94) 0 8

none_or_more : (n : ℕ) → (n ≡ 0) ⊎ (0 < n)
none_or_more zero = inl refl
none_or_more (suc n) = inr (omega arith)

pub id_stored : Laws → (m : Machine) (e : EventValue) → IsStoredId m.id → IsStoredId (step_of m e).id
id_stored laws m e was =
    let kept : (step_of m e).id ≡ m.id → IsStoredId (step_of m e).id = λ is. subst (λ (id : NodeId). IsStoredId id) (sym is) was in
    elim (none_or_more m.peers) as (λ _. IsStoredId (step_of m e).id) [
      | inl none ↦ kept (laws.alone m e none).1
      | inr some ↦ elim (none_or_more (step_of m e).peers) as (λ _. IsStoredId (step_of m e).id) [
        | inl left ↦ subst (λ (id : NodeId). IsStoredId id) (sym (laws.founds m e some left).id) (drawn_stored m.config.seed m.drawn)
        | inr more ↦ kept (laws.among m e more).1
      ]
    ]

-- ---- timelines and starts

pub tidy_stays : (tl : Timeline) → IsTidy tl → tidy_of tl ≡ tl
tidy_stays tl tidy =
    let mpb : clamped_of tl.mpb ≡ tl.mpb = omega (arith, ints, clamps, tidy.slowest, tidy.fastest) in
    let beat : clipped_of tl.beat ≡ tl.beat = omega (arith, ints, clamps, tidy.beat) in
    let time : clipped_of tl.time ≡ tl.time = omega (arith, ints, clamps, tidy.time) in
    let made : ℤ → ℤ → ℤ → Timeline = λ a b c. record { mpb = a; beat = b; time = c } in
    ap (λ a. made a (clipped_of tl.beat) (clipped_of tl.time)) mpb ∙ ap (λ b. made tl.mpb b (clipped_of tl.time)) beat ∙ ap (λ c. made tl.mpb tl.beat c) time

pub timeline_tidy : Laws → (m : Machine) → IsMachine m → IsTidy (timeline_in m)
timeline_tidy laws m is =
    let held = m.sessions.current.first ∷ m.sessions.current.later in
    each IsTidy held (timeline_in m) is.timelines.0 (best_there held (timeline_in m) (laws.best m))

found_holds : {A : Type 0} (P : A → Type 0) (test : A → Bool) (xs : List A) (d : A) → AllByRecursion P xs → P d → P (unwrap_or (find test xs) d)
found_holds P test [] d all here = here
found_holds P test (x ∷ xs) d all here =
    let chosen : (b : Bool) → P (unwrap_or (cond b (Some x) (find test xs)) d) = λ b.
    elim b as (λ v. P (unwrap_or (cond v (Some x) (find test xs)) d)) [ true ↦ all.0 | false ↦ found_holds P test xs d all.1 here ] in
    chosen (test x)

still_limits : IsInLimits still
still_limits = (omega (arith, ints), omega (arith, ints))

pub start_limits : (m : Machine) → IsMachine m → IsInLimits (start_in m)
unfolding latest_start_of
start_limits m is = found_holds IsInLimits (is_latest_in (still ∷ m.starts)) (still ∷ m.starts) still (still_limits, is.starts) still_limits

-- ---- own endpoints

pub gate_stored : (gates : List GateValue) (k : ℕ) → AllByRecursion IsStoredGate gates → IfSome (option_map (λ (g : GateValue). g.local) (slice_get gates k)) IsEndpoint
gate_stored [] k all = tt
gate_stored (g ∷ gates) zero all = all.0
gate_stored (g ∷ gates) (suc k) all = gate_stored gates k all.1
