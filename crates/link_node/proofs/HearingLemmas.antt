-- That a timeline which is heard is taken.
use Rattle.std.proofs.Common.{◌≡◌, ◌⊎◌, ◌<◌, inl, inr, ℕ, true, false, List, [], ◌∷◌, ◌++◌, length, Option, Some, None, Result, Ok, refl, sym, ap, ◌∙◌, subst, arith}
use Rattle.std.specs.Prelude.{nat_lt, if◌then◌else◌}
use Rattle.std.proofs.lemmas.Bool.{false≢true}
use Rattle.std.proofs.lemmas.Bool.Decides.{nat_tests}
use Rattle.lk_base.specs.IdOrder.{same_id}
use Rattle.lk_base.specs.declared.endpoint.Endpoint.{Endpoint}
use Rattle.lk_base.specs.declared.endpoint.Gate.{Gate}
use Rattle.lk_base.specs.declared.ids.NodeId.{NodeId}
use Rattle.lk_base.specs.declared.timeline.Timeline.{Timeline}
use Rattle.link_payload.specs.declared.fields.PeerFields.{PeerFields}
use Rattle.asdp_messages.specs.Datagram.{MessageValue}
use Rattle.asdp_messages.specs.Datagram as message
use Rattle.asdp_messages.specs.Reading.{reading_of}
use Rattle.asdp_messages.specs.declared.fault.WireFault.{WireFault}
use Rattle.asdp_messages.specs.declared.message.StateMsg.{StateMsg}
use Rattle.peer_gateway.specs.Answers.{seen_of}
use Rattle.peer_gateway.specs.Happenings.{Has}
use Rattle.peer_gateway.specs.declared.row.Seen.{Seen}
use Rattle.peer_gateway.specs.declared.row.Seen.TheVariants as seen
use Rattle.session_choice.specs.History.{Taking, History, session_of, with_taken, begun, other_in, saw_by, saw_of, taken_by, saw_after}
use Rattle.session_choice.specs.Keyed.{found_by, updated_by}
use Rattle.session_choice.specs.declared.verdict.Saw.{Saw}
use Rattle.session_choice.specs.declared.verdict.Saw.TheVariants as saw
use Rattle.timeline_math.specs.Tidying.{tidy_of}
use Rattle.link_node.specs.Arrival.{arrived, is_heard}
use Rattle.link_node.specs.Brought.{IsTakenIn}
use Rattle.link_node.specs.Event.{EventValue, Rx, Tick, App, Audio, End}
use Rattle.link_node.specs.Machine.{Machine}
use Rattle.link_node.specs.Staying.{Hears}
use Rattle.link_node.specs.Step.{at_moment, step_of}
use Rattle.link_node.specs.Taking as taking_rules
use Rattle.link_node.specs.Taking.{followed, timeline_taken, with_start, start_taken, sighted, listened, state_taken}
use Rattle.peer_gateway.proofs.MemberLemmas.{has_right}
use Rattle.peer_gateway.proofs.KeyLemmas.{id_from_test, test_from_id}
use Rattle.session_choice.proofs.Lists.{by_test}
use Rattle.link_node.proofs.TakenLemmas.{known, Took}
use Rattle.link_node.proofs.StayingLemmas.{midst, stands_step, no_founding, not_left-settled}
use Rattle.link_node.proofs.KeptLemmas.{Knows, fields-sessions, sessions_stay}

-- ---- the session's list grows

found_updated : (id : NodeId) (seen : Timeline) (rows : List Taking) (row : Taking) → found_by session_of id rows ≡ Some row
    → (old : Taking) × Has (updated_by session_of id (with_taken seen) rows) (with_taken seen old) × (old.session ≡ id)
found_updated id seen [] row is = cc
found_updated id seen (r ∷ rows) row is =
    by_test
    (λ b. same_id r.session id ≡ b → (if b then Some r else found_by session_of id rows) ≡ Some row
    → (old : Taking) × Has (if b then with_taken seen r ∷ rows else r ∷ updated_by session_of id (with_taken seen) rows) (with_taken seen old) × (old.session ≡ id))
    (same_id r.session id)
    (λ _ same _. (r, inl refl, id_from_test r.session id same))
    (λ _ _ more. let rest = found_updated id seen rows row more in (rest.0, inr rest.1, rest.2))
    refl is

none_has : (id : NodeId) (rows : List Taking) (row : Taking) → found_by session_of id rows ≡ None → Has rows row → row.session ≡ id → ⊥
none_has id [] row none has same = has
none_has id (r ∷ rows) row none has same =
    by_test
    (λ b. same_id r.session id ≡ b → (if b then Some r else found_by session_of id rows) ≡ None → ⊥) (same_id r.session id)
    (λ _ _ some. cc)
    (λ _ differs more. elim has as (λ _. ⊥) [
      | inl e ↦ false≢true (sym differs ∙ test_from_id r.session id (ap (λ (t : Taking). t.session) e ∙ same))
      | inr h ↦ none_has id rows row more h same
    ])
    refl none

-- it is known, or there is room
abbrev HasRoom : History → NodeId → Type 0
HasRoom h session = Knows (known h) session ⊎ (length h.others < 64)

there_is_room : (n : ℕ) → n < 64 → nat_lt n 64 ≡ true
there_is_room n lt = grind (arith, nat_tests)

room_for : (h : History) (told : NodeId) → same_id h.current.session told ≡ false → other_in told h ≡ None → HasRoom h told → nat_lt (length h.others) 64 ≡ true
room_for h told differs none (inl (taking, inl e, same)) =
    absurd (false≢true (sym differs ∙ test_from_id h.current.session told (ap (λ (t : Taking). t.session) e ∙ same)))
room_for h told differs none (inl (taking, inr has, same)) = absurd (none_has told h.others taking none has same)
room_for h told differs none (inr lt) = there_is_room (length h.others) lt

found_takes : (found : Option Taking) (h : History) (told : NodeId) (seen : Timeline) → same_id h.current.session told ≡ false → other_in told h ≡ found → HasRoom h told
    → Took (known (taken_by found h told seen)) told seen
found_takes (Some other) h told seen differs is room =
    let new = found_updated told seen h.others other is in
    (with_taken seen new.0, inr new.1, new.2, has_right (new.0.first ∷ new.0.later) (seen ∷ []) seen (inl refl))
found_takes None h told seen differs is room =
    subst (λ b. Took (known (if b then record h { others = h.others ++ begun told seen ∷ [] } else h)) told seen) (sym (room_for h told differs is room))
    (begun told seen, inr (has_right h.others (begun told seen ∷ []) (begun told seen) (inl refl)), refl, inl refl)

saw_takes : (h : History) (told : NodeId) (seen : Timeline) → HasRoom h told → Took (known (saw_after h told seen)) told seen
unfolding saw_after
saw_takes h told seen room =
    by_test
    (λ b. same_id h.current.session told ≡ b
    → Took (known (if b then record h { current = with_taken seen h.current } else taken_by (other_in told h) h told seen)) told seen)
    (same_id h.current.session told)
    (λ _ is. (with_taken seen h.current, inl refl, id_from_test h.current.session told is, has_right (h.current.first ∷ h.current.later) (seen ∷ []) seen (inl refl)))
    (λ _ differs. found_takes (other_in told h) h told seen differs refl room)
    refl

-- ---- a new session waits

start-waiting : (fields : PeerFields) (m : Machine) → (start_taken fields m).waiting ≡ m.waiting
unfolding start_taken
start-waiting fields m =
    by_test (λ b. (if b then with_start fields.start m else m).waiting ≡ m.waiting) (taking_rules.is_current fields.session m) (λ _. refl) (λ _. refl)

found_new : (found : Option Taking) (h : History) (seen : Timeline) → found ≡ None → nat_lt (length h.others) 64 ≡ true → saw_by found h seen ≡ saw.New
found_new None h seen is room = rw room refl
found_new (Some other) h seen is room = cc

not_known : (told : NodeId) (rows : List Taking) → (Knows rows told → ⊥) → found_by session_of told rows ≡ None
not_known told [] unknown = refl
not_known told (r ∷ rows) unknown =
    by_test
    (λ b. same_id r.session told ≡ b → (if b then Some r else found_by session_of told rows) ≡ None) (same_id r.session told)
    (λ _ same. absurd (unknown (r, inl refl, id_from_test r.session told same)))
    (λ _ _. not_known told rows (λ knows. unknown (knows.0, inr knows.1, knows.2)))
    refl

saw_new : (h : History) (told : NodeId) (seen : Timeline) → (Knows (known h) told → ⊥) → length h.others < 64 → saw_of h told seen ≡ saw.New
unfolding saw_of
saw_new h told seen unknown room = found_new _ h seen (not_known told (known h) unknown) (there_is_room (length h.others) room)

fields_wait : (fields : PeerFields) (m : Machine) → (Knows (known m.sessions) fields.session → ⊥) → length m.sessions.others < 64
    → Has (start_taken fields (timeline_taken fields m)).waiting fields.session
unfolding timeline_taken
fields_wait fields m unknown room =
    let seen = tidy_of fields.timeline in
    let next = record m { sessions = saw_after m.sessions fields.session seen } in
    let is : (timeline_taken fields m).waiting ≡ m.waiting ++ fields.session ∷ [] =
    ap (λ (answer : Saw). (followed answer fields.session next).waiting) (saw_new m.sessions fields.session seen unknown room) in
    subst (λ l. Has l fields.session) (sym (start-waiting fields (timeline_taken fields m) ∙ is)) (has_right m.waiting (fields.session ∷ []) fields.session (inl refl))

-- ---- the message

record Heard (m n : Machine) (session : NodeId) (seen : Timeline) : Type 0 where
  taken : HasRoom m.sessions session → IsTakenIn n session seen
  waits : (Knows (known m.sessions) session → ⊥) → length m.sessions.others < 64 → Has n.waiting session

fields_heard : (fields : PeerFields) (m : Machine) → Heard m (start_taken fields (timeline_taken fields m)) fields.session (tidy_of fields.timeline)
fields_heard fields m = record {
  taken = λ room. subst (λ (h : History). Took (known h) fields.session (tidy_of fields.timeline)) (sym (fields-sessions fields m))
      (saw_takes m.sessions fields.session (tidy_of fields.timeline) room);
  waits = fields_wait fields m;
}

listened_heard : (answer : Seen) (fields : PeerFields) (m : Machine) → (answer ≡ seen.TableFull → ⊥) → Heard m (listened answer fields m) fields.session (tidy_of fields.timeline)
listened_heard seen.TableFull fields m room = absurd (room refl)
listened_heard seen.New fields m room = fields_heard fields m
listened_heard seen.Known fields m room = fields_heard fields m

state_heard : (gate : Gate) (msg : StateMsg) (m : Machine) → (seen_of gate msg.from m.life ≡ seen.TableFull → ⊥)
    → Heard m (state_taken gate msg m) msg.fields.session (tidy_of msg.fields.timeline)
unfolding state_taken sighted
state_heard gate msg m room =
    let is = listened_heard (seen_of gate msg.from m.life) msg.fields (sighted gate msg m) room in
    record { taken = is.taken; waits = is.waits }

arrived_heard : (gate : Gate) (from : Endpoint) (reading : Result MessageValue WireFault) (msg : StateMsg) (m : Machine)
    → (reading ≡ Ok (message.Alive msg)) ⊎ (reading ≡ Ok (message.Response msg)) → is_heard msg.from msg.group m ≡ true
    → (seen_of gate msg.from m.life ≡ seen.TableFull → ⊥) → Heard m (arrived gate from reading m) msg.fields.session (tidy_of msg.fields.timeline)
arrived_heard gate from reading msg m (inl is) heard room =
    subst (λ r. Heard m (arrived gate from r m) msg.fields.session (tidy_of msg.fields.timeline)) (sym is)
    (subst (λ b. Heard m (if b then state_taken gate msg m else m) msg.fields.session (tidy_of msg.fields.timeline)) (sym heard) (state_heard gate msg m room))
arrived_heard gate from reading msg m (inr is) heard room =
    subst (λ r. Heard m (arrived gate from r m) msg.fields.session (tidy_of msg.fields.timeline)) (sym is)
    (subst (λ b. Heard m (if b then state_taken gate msg m else m) msg.fields.session (tidy_of msg.fields.timeline)) (sym heard) (state_heard gate msg m room))

midst_heard : (m : Machine) (e : EventValue) (msg : StateMsg) → Hears m e msg → Heard m (midst m e) msg.fields.session (tidy_of msg.fields.timeline)
midst_heard m (Rx gate from bytes now) msg hears =
    let is = arrived_heard gate from (reading_of bytes) msg (at_moment now m) hears.0 hears.1 hears.2 in
    record { taken = is.taken; waits = is.waits }
midst_heard m (Tick now) msg hears = absurd hears
midst_heard m (App commit now) msg hears = absurd hears
midst_heard m (Audio number commit now) msg hears = absurd hears
midst_heard m (End now) msg hears = absurd hears

pub step_heard : (m : Machine) (e : EventValue) (msg : StateMsg) → Hears m e msg → (step_of m e).drawn ≡ m.drawn
    → Knows (known m.sessions) msg.fields.session ⊎ (length m.sessions.others < 64) → IsTakenIn (step_of m e) msg.fields.session (tidy_of msg.fields.timeline)
step_heard m e msg hears same room =
    subst (λ (h : History). Took (known h) msg.fields.session (tidy_of msg.fields.timeline)) (sym (sessions_stay m e same)) ((midst_heard m e msg hears).taken room)

pub step_waits : (m : Machine) (e : EventValue) (msg : StateMsg) → Hears m e msg → (step_of m e).drawn ≡ m.drawn
    → (Knows (known m.sessions) msg.fields.session → ⊥) → length m.sessions.others < 64 → Has (step_of m e).waiting msg.fields.session
step_waits m e msg hears same unknown room =
    let a = midst m e in
    let is : (step_of m e).waiting ≡ a.waiting = (stands_step m e).waiting ∙ ap (λ (n : Machine). n.waiting) (not_left-settled a (no_founding m e same)) in
    subst (λ l. Has l msg.fields.session) (sym is) ((midst_heard m e msg hears).waits unknown room)
