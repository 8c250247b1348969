-- That a commit's timeline and start count.
use Rattle.std.proofs.Common.{◌≡◌, ◌⊎◌, inl, inr, ◌+◌, ◌^◌, ℤ, pos, ◌+ℤ◌, ◌<ℤ◌, ◌≤ℤ◌, true, List, [], ◌∷◌, ◌++◌, Option, Some, None, refl, sym, ap, ◌∙◌, subst, arith}
use Rattle.std.specs.Prelude.{int_lt, if◌then◌else◌}
use Rattle.std.specs.Int.{int_max}
use Rattle.std.specs.List.{AllByRecursion}
use Rattle.std.specs.Ordering.{int_eq}
use Rattle.std.proofs.lemmas.Int.{ints}
use Rattle.lk_base.specs.declared.ids.NodeId.{NodeId}
use Rattle.lk_base.specs.declared.start.ClientStart.{ClientStart}
use Rattle.lk_base.specs.declared.timeline.Timeline.{Timeline}
use Rattle.ghost_xform.specs.GhostTime.{ghost_of}
use Rattle.timeline_math.specs.Beats.{beat_at}
use Rattle.peer_gateway.specs.Happenings.{Has}
use Rattle.session_choice.specs.Best.{IsBest, best_of}
use Rattle.session_choice.specs.History.{History, best_in}
use Rattle.client_state.specs.Timelines.{keeps_beat, new_origin_of, renewed_of, session_from_client_of}
use Rattle.client_state.specs.declared.commit.Commit.{Commit}
use Rattle.link_node.specs.Brought.{given_of, given_by}
use Rattle.link_node.specs.Brought as brought
use Rattle.link_node.specs.Client.{renewed}
use Rattle.link_node.specs.Commits.{start_committed, rest_committed, with_client_start, client_taken, committed_by, timeline_committed, commit_taken, app_taken, audio_taken}
use Rattle.link_node.specs.Event.{EventValue, Rx, Tick, App, Audio, End}
use Rattle.link_node.specs.Machine.{Machine, session_in, timeline_in, offset_in}
use Rattle.link_node.specs.Settling.{settled, founded, counted, is_left}
use Rattle.link_node.specs.Staying.{IsSpent, commit_in}
use Rattle.link_node.specs.Step.{at_moment, step_of}
use Rattle.session_choice.proofs.Lists.{by_test, all_append}
use Rattle.link_node.proofs.StayingLemmas.{midst, stands_step}
use Rattle.link_node.proofs.KeptLemmas.{start_committed-sessions, sessions_stay}
use Rattle.link_node.proofs.FollowingLemmas.{best-kept}

below_then : (a b c : ℤ) → a <ℤ b → b <ℤ c → a <ℤ c
below_then a b c p q = omega (arith, ints)

up_to_then : (a b c : ℤ) → a ≤ℤ b → b <ℤ c → a <ℤ c
up_to_then a b c p q = omega (arith, ints)

not_above_itself : (a : ℤ) → a ≤ℤ a
not_above_itself a = omega (arith, ints)

above_next : (a b : ℤ) → b <ℤ int_max a (b +ℤ pos 1)
above_next a b = grind (arith, ints)

pub is_below : (a b : ℤ) → a <ℤ b → int_lt a b ≡ true
is_below a b lt = grind (arith, ints)

all_below : (held seen : ℤ) (list : List Timeline) → held <ℤ seen → AllByRecursion (λ (tl : Timeline). tl.beat <ℤ held) list → AllByRecursion (λ (tl : Timeline). tl.beat <ℤ seen) list
all_below held seen [] lt all = tt
all_below held seen (tl ∷ list) lt all = (below_then tl.beat held seen all.0 lt, all_below held seen list lt all.1)

all_up_to : (held seen : ℤ) (list : List Timeline) → held <ℤ seen → AllByRecursion (λ (tl : Timeline). tl.beat ≤ℤ held) list → AllByRecursion (λ (tl : Timeline). tl.beat <ℤ seen) list
all_up_to held seen [] lt all = tt
all_up_to held seen (tl ∷ list) lt all = (up_to_then tl.beat held seen all.0 lt, all_up_to held seen list lt all.1)

-- what a commit gives is the session's timeline, or has a greater origin
given_above : (session client : Timeline) (at offset : ℤ) (given : Timeline) → session_from_client_of session client at offset ≡ Some given
    → (given ≡ session) ⊎ (session.beat <ℤ given.beat)
unfolding session_from_client_of renewed_of new_origin_of
given_above session client at offset given =
    by_test
    (λ b. (if b then Some session else if int_eq session.beat (pos (2 ^ 60)) then None else Some (renewed_of session client at offset)) ≡ Some given
    → (given ≡ session) ⊎ (session.beat <ℤ given.beat))
    (keeps_beat session client offset)
    (λ _ is. inl (let e : session ≡ given = cc in sym e))
    (λ _. by_test
    (λ b. (if b then None else Some (renewed_of session client at offset)) ≡ Some given → (given ≡ session) ⊎ (session.beat <ℤ given.beat)) (int_eq session.beat (pos (2 ^ 60)))
    (λ _ is. cc)
    (λ _ is. let e : renewed_of session client at offset ≡ given = cc in
    inr (subst (λ (tl : Timeline). session.beat <ℤ tl.beat) e (above_next (beat_at session (ghost_of offset at)) session.beat))))

module _ (there : (first : Timeline) (later : List Timeline) → IsBest (first ∷ later) (best_of first later)) (one : (list : List Timeline) (a b : Timeline) → IsBest list a → IsBest list b → a ≡ b) where
  best-above : (first : Timeline) (later : List Timeline) (seen : Timeline) → (best_of first later).beat <ℤ seen.beat → best_of first (later ++ seen ∷ []) ≡ seen
  best-above first later seen lt =
      let best = there first later in
      let held = (best_of first later).beat in
      let all : AllByRecursion (λ (tl : Timeline). tl.beat <ℤ seen.beat) (first ∷ later) =
      subst (λ (l : List Timeline). AllByRecursion (λ (tl : Timeline). tl.beat <ℤ seen.beat) l) (sym best.split)
      (all_append (λ (tl : Timeline). tl.beat <ℤ seen.beat) best.before (best_of first later ∷ best.after) (all_below held seen.beat best.before lt best.above)
      (lt, all_up_to held seen.beat best.after lt best.least)) in
      let is : IsBest (first ∷ (later ++ seen ∷ [])) seen = record { before = first ∷ later; after = []; split = refl; above = all; least = tt } in
      one (first ∷ (later ++ seen ∷ [])) (best_of first (later ++ seen ∷ [])) seen (there first (later ++ seen ∷ [])) is

  -- it is the best from then on
  given-best : (first : Timeline) (later : List Timeline) (client : Timeline) (at offset : ℤ) (given : Timeline)
      → session_from_client_of (best_of first later) client at offset ≡ Some given → best_of first (later ++ given ∷ []) ≡ given
  given-best first later client at offset given is =
      elim (given_above (best_of first later) client at offset given is) as (λ _. best_of first (later ++ given ∷ []) ≡ given) [
        | inl same ↦ best-kept there one first later given (subst (λ (tl : Timeline). tl.beat ≤ℤ (best_of first later).beat) (sym same) (not_above_itself (best_of first later).beat)) ∙ sym same
        | inr lt ↦ best-above first later given lt
      ]

  -- the session and its timeline
  abbrev Counts : History → NodeId → Timeline → Type 0
  Counts k session tl = (k.current.session ≡ session) × (best_in k.current ≡ tl)

  given-counts : (found : Option Timeline) (client : Timeline) (commit : Commit) (m : Machine) (session : NodeId) (tl : Timeline)
      → session_from_client_of (timeline_in m) client commit.at (offset_in m) ≡ found → Has (given_of found m) (session, tl)
      → Counts (committed_by found client commit m).sessions session tl
  unfolding renewed
  given-counts None client commit m session tl is has = absurd has
  given-counts (Some given) client commit m session tl is (inl e) =
      let tl_is : given ≡ tl = ap (λ (p : NodeId × Timeline). p.1) e in
      let session_is : session_in m ≡ session = ap (λ (p : NodeId × Timeline). p.0) e in
      subst (λ (k : History). Counts k session tl) (sym (start_committed-sessions commit.start (client_taken (Some given) client m)))
      (session_is, given-best m.sessions.current.first m.sessions.current.later client commit.at (offset_in m) given is ∙ tl_is)
  given-counts (Some given) client commit m session tl is (inr none) = absurd none

  timeline-counts : (client : Option Timeline) (commit : Commit) (m n : Machine) (session : NodeId) (tl : Timeline) → n.sessions ≡ m.sessions → Has (given_by client commit m) (session, tl)
      → Counts (timeline_committed client commit n).sessions session tl
  timeline-counts None commit m n session tl same has = absurd has
  timeline-counts (Some client) commit m n session tl same has =
      let found : History → Option Timeline = λ h. session_from_client_of (best_in h.current) client commit.at h.offset in
      let there_given : Has (given_of (found n.sessions) n) (session, tl) =
      moved (found m.sessions) (found n.sessions) m n session tl (ap found (sym same)) (ap (λ (h : History). h.current.session) (sym same)) has in
      given-counts (found n.sessions) client commit n session tl refl there_given
    where
      moved : (a b : Option Timeline) (m n : Machine) (session : NodeId) (tl : Timeline) → a ≡ b → session_in m ≡ session_in n → Has (given_of a m) (session, tl) → Has (given_of b n) (session, tl)
      moved None b m n session tl is same has = absurd has
      moved (Some given) b m n session tl is same (inl e) =
          subst (λ o. Has (given_of o n) (session, tl)) is
          (inl (ap (λ (i : NodeId). let p : NodeId × Timeline = (i, given) in p) (sym same) ∙ e))
      moved (Some given) b m n session tl is same (inr none) = absurd none

  midst-counts : (m : Machine) (e : EventValue) (session : NodeId) (tl : Timeline) → Has (brought.committed_by e m) (session, tl) → Counts (midst m e).sessions session tl
  unfolding app_taken audio_taken commit_taken
  midst-counts m (App commit now) session tl has =
      timeline-counts commit.timeline commit m (record m { moment = (at_moment now m).moment; app = m.app + 1 }) session tl refl has
  midst-counts m (Audio number commit now) session tl has =
      timeline-counts commit.timeline commit m (record m { moment = (at_moment now m).moment; audio = number }) session tl refl has
  midst-counts m (Rx gate from bytes now) session tl has = absurd has
  midst-counts m (Tick now) session tl has = absurd has
  midst-counts m (End now) session tl has = absurd has

  pub step-counts : (m : Machine) (e : EventValue) (session : NodeId) (tl : Timeline) → Has (brought.committed_by e m) (session, tl) → (step_of m e).drawn ≡ m.drawn
      → (session_in (step_of m e) ≡ session) × (timeline_in (step_of m e) ≡ tl)
  step-counts m e session tl has same = subst (λ (k : History). Counts k session tl) (sym (sessions_stay m e same)) (midst-counts m e session tl has)

-- ---- the start

start-taken : (start : ClientStart) (m : Machine) → m.client_start.stamp <ℤ start.stamp → (start_committed (Some start) m).client_start ≡ start
unfolding start_committed
start-taken start m lt = ap (λ b. (if b then with_client_start start m else m).client_start) (is_below m.client_start.stamp start.stamp lt)

rest-start : (commit : Commit) (start : ClientStart) (m : Machine) → commit.start ≡ Some start → m.client_start.stamp <ℤ start.stamp → (rest_committed commit m).client_start ≡ start
rest-start commit start m begins lt = ap (λ s. (start_committed s m).client_start) begins ∙ start-taken start m lt

given-start : (found : Option Timeline) (client : Timeline) (commit : Commit) (start : ClientStart) (m : Machine) → commit.start ≡ Some start → (found ≡ None → ⊥)
    → m.client_start.stamp <ℤ start.stamp → (committed_by found client commit m).client_start ≡ start
unfolding renewed
given-start None client commit start m begins given lt = absurd (given refl)
given-start (Some session) client commit start m begins given lt = rest-start commit start (client_taken (Some session) client m) begins lt

timeline-start : (client : Option Timeline) (commit : Commit) (start : ClientStart) (m : Machine) → commit.timeline ≡ client → commit.start ≡ Some start → m.client_start.stamp <ℤ start.stamp
    → (IsSpent m commit → ⊥) → (timeline_committed client commit m).client_start ≡ start
timeline-start None commit start m is begins lt room = rest-start commit start m begins lt
timeline-start (Some client) commit start m is begins lt room =
    given-start (session_from_client_of (timeline_in m) client commit.at (offset_in m)) client commit start m begins (λ none. room (client, is, none)) lt

midst-start : (m : Machine) (e : EventValue) (commit : Commit) (start : ClientStart) → commit_in e ≡ Some commit → commit.start ≡ Some start → m.client_start.stamp <ℤ start.stamp
    → (IsSpent m commit → ⊥) → (midst m e).client_start ≡ start
unfolding app_taken audio_taken commit_taken
midst-start m (App given now) commit start is begins lt room =
    let same : given ≡ commit = cc in
    ap (λ (c : Commit). (timeline_committed c.timeline c (record m { moment = (at_moment now m).moment; app = m.app + 1 })).client_start) same
    ∙ timeline-start commit.timeline commit start (record m { moment = (at_moment now m).moment; app = m.app + 1 }) refl begins lt room
midst-start m (Audio number given now) commit start is begins lt room =
    let same : given ≡ commit = cc in
    ap (λ (c : Commit). (timeline_committed c.timeline c (record m { moment = (at_moment now m).moment; audio = number })).client_start) same
    ∙ timeline-start commit.timeline commit start (record m { moment = (at_moment now m).moment; audio = number }) refl begins lt room
midst-start m (Rx gate from bytes now) commit start is begins lt room = cc
midst-start m (Tick now) commit start is begins lt room = cc
midst-start m (End now) commit start is begins lt room = cc

settled-start : (m : Machine) → (settled m).client_start ≡ m.client_start
unfolding settled founded renewed
settled-start m = by_test (λ b. (if b then founded (counted m) else counted m).client_start ≡ m.client_start) (is_left m) (λ _. refl) (λ _. refl)

pub step-start : (m : Machine) (e : EventValue) (commit : Commit) (start : ClientStart) → commit_in e ≡ Some commit → commit.start ≡ Some start → m.client_start.stamp <ℤ start.stamp
    → (IsSpent m commit → ⊥) → (step_of m e).client_start ≡ start
step-start m e commit start is begins lt room =
    (stands_step m e).client_start ∙ settled-start (midst m e) ∙ midst-start m e commit start is begins lt room
