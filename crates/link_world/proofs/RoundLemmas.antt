-- Who heard its session told, and stayed there, has taken the timeline at the end.
use Rattle.std.proofs.Common.{◌≡◌, inl, inr, ℕ, zero, suc, true, false, List, [], ◌∷◌, set, Some, refl, sym, ap, subst, ◌∙◌, arith}
use Rattle.std.specs.Prelude.{◌==◌, slice_get}
use Rattle.std.proofs.lemmas.Bool.Decides.{nat_tests}
use Rattle.lk_base.specs.declared.ids.NodeId.{NodeId}
use Rattle.lk_base.specs.declared.timeline.Timeline.{Timeline}
use Rattle.peer_gateway.specs.Happenings.{Has}
use Rattle.link_node.specs.Brought.{taken_in}
use Rattle.link_node.specs.Machine.{Machine, session_in}
use Rattle.link_node.specs.Step.{step_of}
use Rattle.link_node.specs.WellFormed.{IsMachine}
use Rattle.link_world.specs.Round.{IsIn, StaysIn, IsTold, HearsTold}
use Rattle.link_world.specs.World.{WorldValue, TurnValue, Happens, IsAfter, peer_of, stepped}
use Rattle.session_choice.proofs.Lists.{by_test}
use Rattle.link_world.proofs.LowerLaws.{Laws}
use Rattle.link_world.proofs.Lists.{has_got}
use Rattle.link_world.proofs.OneLemmas.{one_turn}
use Rattle.link_world.proofs.OriginLemmas.{AreSound, sound_turn}
use Rattle.link_world.proofs.StandingLemmas.{some_same, no_some}

-- ---- the machine of a number after a step

pub get_set : {A : Type 0} (xs : List A) (k : ℕ) (v x : A) → slice_get xs k ≡ Some x → slice_get (set xs k v) k ≡ Some v
get_set [] k v x at = absurd (no_some x at)
get_set (y ∷ ys) zero v x at = refl
get_set (y ∷ ys) (suc k) v x at = get_set ys k v x at

get_other : {A : Type 0} (xs : List A) (p k : ℕ) (v : A) → (k ≡ p → ⊥) → slice_get (set xs p v) k ≡ slice_get xs k
get_other [] p k v differs = refl
get_other (y ∷ ys) zero zero v differs = absurd (differs refl)
get_other (y ∷ ys) zero (suc k) v differs = refl
get_other (y ∷ ys) (suc p) zero v differs = refl
get_other (y ∷ ys) (suc p) (suc k) v differs = get_other ys p k v (λ e. differs (ap (λ n. suc n) e))

same_number : (a b : ℕ) → (a == b) ≡ true → a ≡ b
same_number a b is = grind (arith, nat_tests)

other_number : (a b : ℕ) → (a == b) ≡ false → a ≡ b → ⊥
other_number a b is same = grind (arith, nat_tests)

by_number : {P : Type 0} (a b : ℕ) → (a ≡ b → P) → ((a ≡ b → ⊥) → P) → P
by_number {P} a b same other =
    by_test (λ t. (a == b) ≡ t → P) (a == b) (λ _ is. same (same_number a b is)) (λ _ is. other (other_number a b is)) refl

-- ---- a turn

-- of no timeline it is asked who made it
abbrev pub Any : NodeId → Timeline → Type 0
Any session tl = Unit {0}

-- the peer of that number has taken the timeline in its session
abbrev pub Taken : ℕ → Timeline → WorldValue → Type 0
Taken k tl world = (m : Machine) → slice_get world.machines k ≡ Some m → Has (taken_in m) tl

stays_step : Laws → (k : ℕ) (session : NodeId) (drawn : ℕ) (tl : Timeline) (turn : TurnValue) (before after : WorldValue) → AreSound Any before → AreSound Any after
    → IsIn k session drawn before → IsIn k session drawn after → Happens turn before after → Taken k tl before → Taken k tl after
stays_step laws k session drawn tl turn before after sound sound_after was is (inr idle) took = subst (λ (w : WorldValue). Taken k tl w) (sym idle.after_is) took
stays_step laws k session drawn tl turn before after sound sound_after was is (inl step) took =
    λ n at.
    let m = step.machine in
    let e = step.event in
    let p = peer_of turn in
    let there : slice_get (set before.machines p (step_of m e)) k ≡ Some n = subst (λ (w : WorldValue). slice_get w.machines k ≡ Some n) step.after_is at in
    let own : k ≡ p → Has (taken_in n) tl = λ same.
    let here : slice_get before.machines k ≡ Some m = subst (λ (j : ℕ). slice_get before.machines j ≡ Some m) (sym same) step.reaches.there in
    let next : step_of m e ≡ n =
    some_same (step_of m e) n (sym (get_set before.machines p (step_of m e) m step.reaches.there) ∙ subst (λ (j : ℕ). slice_get (set before.machines p (step_of m e)) j ≡ Some n) same there) in
    let old : was.machine ≡ m = some_same was.machine m (sym was.there ∙ here) in
    let new : is.machine ≡ n = some_same is.machine n (sym is.there ∙ at) in
    let drew : n.drawn ≡ m.drawn = sym (ap (λ (z : Machine). z.drawn) new) ∙ is.drawn_is ∙ sym was.drawn_is ∙ ap (λ (z : Machine). z.drawn) old in
    let stayed : session_in n ≡ session_in m = sym (ap (λ (z : Machine). session_in z) new) ∙ is.session_is ∙ sym was.session_is ∙ ap (λ (z : Machine). session_in z) old in
    let well = (sound_after.machines n (has_got after.machines k n at)).machine in
    subst (λ (z : Machine). Has (taken_in z) tl) next
    (laws.keeps m e tl (sound.machines m (has_got before.machines k m here)).machine
    (subst IsMachine (sym next) well)
    (ap (λ (z : Machine). z.drawn) next ∙ drew)
    (ap (λ (z : Machine). session_in z) next ∙ stayed)
    (took m here)) in
    by_number k p own (λ differs. took n (sym (get_other before.machines p k (step_of m e) differs) ∙ there))

told_step : Laws → (k : ℕ) (session : NodeId) (tl : Timeline) (turn : TurnValue) (before after : WorldValue) → IsTold k session tl turn before → Happens turn before after → Taken k tl after
told_step laws k session tl turn before after told happens =
    let m = told.machine in
    let e = told.event in
    let next = stepped turn before m e in
    let is : after ≡ next = one_turn turn before after next happens (inl (record { machine = m; event = e; reaches = told.reaches; after_is = refl })) in
    let set_there : slice_get next.machines k ≡ Some (step_of m e) =
    subst (λ (j : ℕ). slice_get next.machines j ≡ Some (step_of m e)) told.peer (get_set before.machines (peer_of turn) (step_of m e) m told.reaches.there) in
    let takes : Has (taken_in (step_of m e)) tl =
    subst (λ (t : Timeline). Has (taken_in (step_of m e)) t) told.timeline (laws.takes m e told.msg told.hears (told.told ∙ sym told.session_is)) in
    subst (λ (w : WorldValue). Taken k tl w) (sym is)
    (λ n at. subst (λ (z : Machine). Has (taken_in z) tl) (some_same (step_of m e) n (sym set_there ∙ at)) takes)

-- ---- a schedule

-- where these turns lead, the peer has taken the timeline
pub record Leads (k : ℕ) (tl : Timeline) (before : WorldValue) (turns : List TurnValue) : Type 0 where
  pub world : WorldValue
  pub led : IsAfter before turns world
  pub taken : Taken k tl world

first_in : (k : ℕ) (session : NodeId) (drawn : ℕ) (world : WorldValue) (turns : List TurnValue) → StaysIn k session drawn world turns → IsIn k session drawn world
first_in k session drawn world [] stays = stays
first_in k session drawn world (turn ∷ turns) stays = stays.1

pub stays_after : Laws → (k : ℕ) (session : NodeId) (drawn : ℕ) (tl : Timeline) (before : WorldValue) (turns : List TurnValue) → AreSound Any before
    → StaysIn k session drawn before turns → Taken k tl before → Leads k tl before turns
stays_after laws k session drawn tl before [] sound stays took = record { world = before; led = refl; taken = took }
stays_after laws k session drawn tl before (turn ∷ turns) sound stays took =
    let between = stays.0 in
    let sound_then = sound_turn laws Any turn before between sound stays.2 (λ _ _ _. tt) in
    let took_then = stays_step laws k session drawn tl turn before between sound sound_then stays.1 (first_in k session drawn between turns stays.3) stays.2 took in
    let rest = stays_after laws k session drawn tl between turns sound_then stays.3 took_then in
    record { world = rest.world; led = (between, stays.2, rest.led); taken = rest.taken }

pub heard_after : Laws → (k : ℕ) (session : NodeId) (tl : Timeline) (before : WorldValue) (turns : List TurnValue) → AreSound Any before
    → HearsTold k session tl before turns → Leads k tl before turns
heard_after laws k session tl before [] sound hears = absurd hears
heard_after laws k session tl before (turn ∷ turns) sound (inl now) =
    let sound_then = sound_turn laws Any turn before now.between sound now.happens (λ _ _ _. tt) in
    let took = told_step laws k session tl turn before now.between now.told now.happens in
    let rest = stays_after laws k session now.drawn tl now.between turns sound_then now.stays took in
    record { world = rest.world; led = (now.between, now.happens, rest.led); taken = rest.taken }
heard_after laws k session tl before (turn ∷ turns) sound (inr later) =
    let sound_then = sound_turn laws Any turn before later.0 sound later.1 (λ _ _ _. tt) in
    let rest = heard_after laws k session tl later.0 turns sound_then later.2 in
    record { world = rest.world; led = (later.0, later.1, rest.led); taken = rest.taken }
