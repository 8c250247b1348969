-- Who hears its own session told stays in it and holds the timeline told, or a later one.
use Rattle.std.proofs.Common.{◌≡◌, ◌⊎◌, ◌<◌, ◌<ℤ◌, ◌≤ℤ◌, inl, inr, Bool, true, List, [], ◌∷◌, ◌++◌, length, filter, map, Result, Ok, refl, sym, ap, ◌∙◌, subst, cond, arith}
use Rattle.std.specs.Prelude.{if◌then◌else◌}
use Rattle.std.specs.Set.{distinct_count, is_member, unique_keys}
use Rattle.std.proofs.lemmas.Int.{ints}
use Rattle.lk_base.specs.IdOrder.{same_id}
use Rattle.lk_base.specs.declared.endpoint.Endpoint.{Endpoint}
use Rattle.lk_base.specs.declared.endpoint.Gate.{Gate}
use Rattle.lk_base.specs.declared.ids.NodeId.{NodeId}
use Rattle.lk_base.specs.declared.timeline.Timeline.{Timeline}
use Rattle.link_payload.specs.declared.fields.PeerFields.{PeerFields}
use Rattle.asdp_messages.specs.Datagram.{MessageValue}
use Rattle.asdp_messages.specs.Datagram as message
use Rattle.asdp_messages.specs.Reading.{reading_of}
use Rattle.asdp_messages.specs.declared.fault.WireFault.{WireFault}
use Rattle.asdp_messages.specs.declared.message.StateMsg.{StateMsg}
use Rattle.peer_gateway.specs.Answers.{seen_of, is_in, peers_in}
use Rattle.peer_gateway.specs.Happenings.{Happening, Has, life_after, outlives, rows_of, sighting}
use Rattle.peer_gateway.specs.declared.row.PeerRow.{PeerRow}
use Rattle.peer_gateway.specs.declared.row.Seen.{Seen}
use Rattle.peer_gateway.specs.declared.row.Seen.TheVariants as seen
use Rattle.session_choice.specs.Best.{IsBest, best_of}
use Rattle.session_choice.specs.History.{History, with_taken, saw_after}
use Rattle.timeline_math.specs.Tidying.{tidy_of}
use Rattle.link_node.specs.Arrival.{arrived, is_heard}
use Rattle.link_node.specs.Brought.{taken_in}
use Rattle.link_node.specs.Event.{EventValue, Rx, Tick, App, Audio, End}
use Rattle.link_node.specs.Machine.{Machine, session_in, timeline_in}
use Rattle.link_node.specs.Staying.{Hears}
use Rattle.link_node.specs.Step.{at_moment, step_of}
use Rattle.link_node.specs.Taking.{row_of, sighted, listened, state_taken}
use Rattle.peer_gateway.proofs.LifeLemmas.{rows_more}
use Rattle.peer_gateway.proofs.MemberLemmas.{has_right, has_parts, has_from_all, has_filter, has_map}
use Rattle.peer_gateway.proofs.KeyLemmas.{test_from_id}
use Rattle.session_choice.proofs.Lists.{by_test}
use Rattle.link_node.proofs.EndedLemmas.{listened-life}
use Rattle.link_node.proofs.KeptLemmas.{fields-sessions, sessions_stay}
use Rattle.link_node.proofs.StayingLemmas.{midst, goes_on, not_left_by_some}

-- ---- a row in the session is a peer there

count_some : (eq : NodeId → NodeId → Bool) (id : NodeId) (ids : List NodeId) → 0 < distinct_count eq (id ∷ ids)
count_some eq id [] = omega arith
count_some eq id (next ∷ ids) =
    by_test (λ b. 0 < length (cond b (unique_keys eq (next ∷ ids)) (id ∷ unique_keys eq (next ∷ ids)))) (is_member eq (next ∷ ids) id)
    (λ _. count_some eq next ids) (λ _. omega arith)

count_of_some : (eq : NodeId → NodeId → Bool) (ids : List NodeId) (id : NodeId) → Has ids id → 0 < distinct_count eq ids
count_of_some eq [] id has = absurd has
count_of_some eq (first ∷ ids) id has = count_some eq first ids

some_peers : (session : NodeId) (life : List Happening) (row : PeerRow) → Has (rows_of life) row → row.session ≡ session → 0 < peers_in session life
unfolding peers_in
some_peers session life row has same =
    let kept = has_filter (is_in session) (rows_of life) row has (test_from_id row.session session same) in
    count_of_some same_id (map (λ (r : PeerRow). r.id) (filter (is_in session) (rows_of life))) row.id
    (has_map (λ (r : PeerRow). r.id) (filter (is_in session) (rows_of life)) row kept)

sighted_row : (life : List Happening) (row : PeerRow) → Has (rows_of (life ++ sighting row ∷ [])) row
sighted_row life row =
    subst (λ rows. Has rows row) (sym (rows_more life (sighting row)))
    (has_right (filter (λ (r : PeerRow). outlives r (sighting row)) (rows_of life)) (row ∷ []) row (inl refl))

row_after : (answer : Seen) (life : List Happening) (row : PeerRow) → (answer ≡ seen.TableFull → ⊥) → Has (rows_of (life_after answer row life)) row
row_after seen.TableFull life row room = absurd (room refl)
row_after seen.New life row room = sighted_row life row
row_after seen.Known life row room = sighted_row life row

-- ---- the current session takes what it is told

current_takes : (h : History) (session : NodeId) (seen : Timeline) → session ≡ h.current.session → (saw_after h session seen).current ≡ with_taken seen h.current
unfolding saw_after
current_takes h session seen same =
    let is : same_id h.current.session session ≡ true = test_from_id h.current.session session (sym same) in
    rw is refl

-- what the message leaves: the timeline told stands last in the current session's list, and the peer's row is there
pub record Told (m n : Machine) (seen : Timeline) : Type 0 where
  pub current : n.sessions.current ≡ with_taken seen m.sessions.current
  pub peers : 0 < peers_in (session_in m) n.life

listened_told : (answer : Seen) (fields : PeerFields) (m : Machine) → (answer ≡ seen.TableFull → ⊥) → fields.session ≡ session_in m
    → (listened answer fields m).sessions.current ≡ with_taken (tidy_of fields.timeline) m.sessions.current
listened_told seen.TableFull fields m room same = absurd (room refl)
listened_told seen.New fields m room same = ap (λ (h : History). h.current) (fields-sessions fields m) ∙ current_takes m.sessions fields.session (tidy_of fields.timeline) same
listened_told seen.Known fields m room same = ap (λ (h : History). h.current) (fields-sessions fields m) ∙ current_takes m.sessions fields.session (tidy_of fields.timeline) same

state_told : (gate : Gate) (msg : StateMsg) (m : Machine) → (seen_of gate msg.from m.life ≡ seen.TableFull → ⊥) → msg.fields.session ≡ session_in m
    → Told m (state_taken gate msg m) (tidy_of msg.fields.timeline)
unfolding state_taken sighted
state_told gate msg m room same =
    let answer = seen_of gate msg.from m.life in
    let life = listened-life answer msg.fields (sighted gate msg m) in
    record {
      current = listened_told answer msg.fields (sighted gate msg m) room same;
      peers = subst (λ (l : List Happening). 0 < peers_in (session_in m) l) (sym life)
          (some_peers (session_in m) (life_after answer (row_of gate msg m) m.life) (row_of gate msg m) (row_after answer m.life (row_of gate msg m) room) same);
    }

arrived_told : (gate : Gate) (from : Endpoint) (reading : Result MessageValue WireFault) (msg : StateMsg) (m : Machine)
    → (reading ≡ Ok (message.Alive msg)) ⊎ (reading ≡ Ok (message.Response msg)) → is_heard msg.from msg.group m ≡ true
    → (seen_of gate msg.from m.life ≡ seen.TableFull → ⊥) → msg.fields.session ≡ session_in m → Told m (arrived gate from reading m) (tidy_of msg.fields.timeline)
arrived_told gate from reading msg m (inl is) heard room same =
    subst (λ r. Told m (arrived gate from r m) (tidy_of msg.fields.timeline)) (sym is)
    (subst (λ b. Told m (if b then state_taken gate msg m else m) (tidy_of msg.fields.timeline)) (sym heard) (state_told gate msg m room same))
arrived_told gate from reading msg m (inr is) heard room same =
    subst (λ r. Told m (arrived gate from r m) (tidy_of msg.fields.timeline)) (sym is)
    (subst (λ b. Told m (if b then state_taken gate msg m else m) (tidy_of msg.fields.timeline)) (sym heard) (state_told gate msg m room same))

midst_told : (m : Machine) (e : EventValue) (msg : StateMsg) → Hears m e msg → msg.fields.session ≡ session_in m → Told m (midst m e) (tidy_of msg.fields.timeline)
midst_told m (Rx gate from bytes now) msg hears same =
    let is = arrived_told gate from (reading_of bytes) msg (at_moment now m) hears.0 hears.1 hears.2 same in
    record { current = is.current; peers = is.peers }
midst_told m (Tick now) msg hears same = absurd hears
midst_told m (App commit now) msg hears same = absurd hears
midst_told m (Audio number commit now) msg hears same = absurd hears
midst_told m (End now) msg hears same = absurd hears

-- ---- the step

-- no session is founded
pub told-stays : (m : Machine) (e : EventValue) (msg : StateMsg) → Hears m e msg → msg.fields.session ≡ session_in m → (step_of m e).drawn ≡ m.drawn
told-stays m e msg hears same =
    let a = midst m e in
    let is = midst_told m e msg hears same in
    let there : session_in a ≡ session_in m = ap (λ t. t.session) is.current in
    let some : 0 < peers_in (session_in a) a.life = subst (λ (s : NodeId). 0 < peers_in s a.life) (sym there) is.peers in
    (goes_on m e (not_left_by_some a.peers (peers_in (session_in a) a.life) some)).0

pub told-current : (m : Machine) (e : EventValue) (msg : StateMsg) → Hears m e msg → msg.fields.session ≡ session_in m
    → (step_of m e).sessions.current ≡ with_taken (tidy_of msg.fields.timeline) m.sessions.current
told-current m e msg hears same =
    ap (λ (h : History). h.current) (sessions_stay m e (told-stays m e msg hears same)) ∙ (midst_told m e msg hears same).current

pub told-taken : (m : Machine) (e : EventValue) (msg : StateMsg) → Hears m e msg → msg.fields.session ≡ session_in m
    → Has (taken_in (step_of m e)) (tidy_of msg.fields.timeline)
told-taken m e msg hears same =
    subst (λ t. Has (t.first ∷ t.later) (tidy_of msg.fields.timeline)) (sym (told-current m e msg hears same))
    (has_right (m.sessions.current.first ∷ m.sessions.current.later) (tidy_of msg.fields.timeline ∷ []) (tidy_of msg.fields.timeline) (inl refl))

-- of what was taken the best has the greatest beat origin
best_greatest : (list : List Timeline) (best tl : Timeline) → IsBest list best → Has list tl → tl.beat ≤ℤ best.beat
best_greatest list best tl is there =
    elim (has_parts is.before (best ∷ is.after) tl (subst (λ (l : List Timeline). Has l tl) is.split there)) as (λ _. tl.beat ≤ℤ best.beat) [
      | inl h ↦ let less = has_from_all (λ (t : Timeline). t.beat <ℤ best.beat) is.before tl is.above h in omega (arith, ints)
      | inr h ↦ elim h as (λ _. tl.beat ≤ℤ best.beat) [
        | inl e ↦ let same = ap (λ (t : Timeline). t.beat) e in omega (arith, ints)
        | inr later ↦ has_from_all (λ (t : Timeline). t.beat ≤ℤ best.beat) is.after tl is.least later
      ]
    ]

pub told-held : ((first : Timeline) (later : List Timeline) → IsBest (first ∷ later) (best_of first later)) → (m : Machine) (e : EventValue) (msg : StateMsg)
    → Hears m e msg → msg.fields.session ≡ session_in m → (tidy_of msg.fields.timeline).beat ≤ℤ (timeline_in (step_of m e)).beat
told-held best m e msg hears same =
    let held = (step_of m e).sessions.current in
    best_greatest (taken_in (step_of m e)) (timeline_in (step_of m e)) (tidy_of msg.fields.timeline) (best held.first held.later) (told-taken m e msg hears same)
