-- That what a session has taken stays.
use Rattle.std.proofs.Common.{◌≡◌, ◌⊎◌, inl, inr, ◌+◌, Bool, true, false, List, [], ◌∷◌, ◌++◌, length, map, Option, Some, None, Result, Ok, Err, refl, sym, ap, ◌∙◌, subst}
use Rattle.std.specs.Prelude.{int_lt, nat_lt, if◌then◌else◌}
use Rattle.std.specs.List.{AllByRecursion}
use Rattle.lk_base.specs.IdOrder.{same_id}
use Rattle.lk_base.specs.declared.endpoint.Endpoint.{Endpoint}
use Rattle.lk_base.specs.declared.endpoint.Gate.{Gate}
use Rattle.lk_base.specs.declared.ids.NodeId.{NodeId}
use Rattle.lk_base.specs.declared.start.ClientStart.{ClientStart}
use Rattle.lk_base.specs.declared.timeline.Timeline.{Timeline}
use Rattle.link_payload.specs.declared.fields.PeerFields.{PeerFields}
use Rattle.asdp_messages.specs.Datagram.{MessageValue}
use Rattle.asdp_messages.specs.Datagram as message
use Rattle.asdp_messages.specs.Reading.{reading_of}
use Rattle.asdp_messages.specs.declared.fault.WireFault.{WireFault}
use Rattle.asdp_messages.specs.declared.message.StateMsg.{StateMsg}
use Rattle.peer_gateway.specs.Answers.{seen_of}
use Rattle.peer_gateway.specs.Happenings.{Has, said_goodbye}
use Rattle.peer_gateway.specs.declared.row.Seen.{Seen}
use Rattle.peer_gateway.specs.declared.row.Seen.TheVariants as seen
use Rattle.session_choice.specs.History.{Taking, History, session_of, with_taken, begun, is_current, other_in, taken_by, saw_of, saw_after, committed}
use Rattle.session_choice.specs.Keyed.{updated_by}
use Rattle.session_choice.specs.declared.verdict.Saw.{Saw}
use Rattle.session_choice.specs.declared.verdict.Saw.TheVariants as saw
use Rattle.timeline_math.specs.Tidying.{tidy_of}
use Rattle.client_state.specs.Timelines.{session_from_client_of}
use Rattle.client_state.specs.declared.commit.Commit.{Commit}
use Rattle.link_node.specs.Arrival.{arrived, is_heard}
use Rattle.link_node.specs.Brought.{taken_in, IsTakenIn}
use Rattle.link_node.specs.Client.{renewed}
use Rattle.link_node.specs.Commits.{start_committed, with_client_start, client_taken, committed_by, timeline_committed, commit_taken, app_taken, audio_taken}
use Rattle.link_node.specs.Event.{EventValue, Rx, Tick, App, Audio, End, moment_of}
use Rattle.link_node.specs.Machine.{session_in, Machine, timeline_in, offset_in}
use Rattle.link_node.specs.Measuring.{pong_heard}
use Rattle.link_node.specs.Staying.{IsKnownIn}
use Rattle.link_node.specs.Step.{at_moment, taken, step_of}
use Rattle.link_node.specs.Taking as taking_rules
use Rattle.link_node.specs.Taking.{followed, timeline_taken, with_start, start_taken, sighted, listened, state_taken}
use Rattle.link_node.specs.Tick.{ticked}
use Rattle.link_node.specs.WellFormed.{AreDistinct}
use Rattle.peer_gateway.proofs.MemberLemmas.{has_left}
use Rattle.session_choice.proofs.Lists.{by_test}
use Rattle.link_node.proofs.TakenLemmas.{known, Took, Within}
use Rattle.link_node.proofs.BroughtLemmas.{in_pong, in_ticked}
use Rattle.link_node.proofs.StayingLemmas.{midst, stands_step, no_founding, not_left-settled}

-- ---- rules that take nothing: where no session is known twice, what is left of a session is all of it

all_has : (P : NodeId → Type 0) (rows : List Taking) (row : Taking) → AllByRecursion P (map session_of rows) → Has rows row → P row.session
all_has P [] row all has = absurd has
all_has P (r ∷ rows) row all (inl e) = subst (λ (t : Taking). P t.session) e all.0
all_has P (r ∷ rows) row all (inr has) = all_has P rows row all.1 has

unique : (rows : List Taking) → AreDistinct (map session_of rows) → (a b : Taking) → Has rows a → Has rows b → a.session ≡ b.session → a ≡ b
unique [] distinct a b first second same = absurd first
unique (r ∷ rows) distinct a b (inl e) (inl f) same = sym e ∙ f
unique (r ∷ rows) distinct a b (inl e) (inr f) same =
    absurd (all_has (λ other. other ≡ r.session → ⊥) rows b distinct.0 f (sym (ap (λ (t : Taking). t.session) e ∙ same)))
unique (r ∷ rows) distinct a b (inr e) (inl f) same =
    absurd (all_has (λ other. other ≡ r.session → ⊥) rows a distinct.0 e (same ∙ sym (ap (λ (t : Taking). t.session) f)))
unique (r ∷ rows) distinct a b (inr e) (inr f) same = unique rows distinct.1 a b e f same

abbrev pub Knows : List Taking → NodeId → Type 0
Knows takings session = (taking : Taking) × Has takings taking × (taking.session ≡ session)

left_whole : (more takings : List Taking) → AreDistinct (map session_of more) → Within more takings → (session : NodeId) (tl : Timeline)
    → Took more session tl → Knows takings session → Took takings session tl
left_whole more takings distinct within session tl took knows =
    let same : knows.0 ≡ took.0 = unique more distinct knows.0 took.0 (within knows.0 knows.1) took.1 (knows.2 ∙ sym took.2) in
    (took.0, subst (λ (t : Taking). Has takings t) same knows.1, took.2, took.3)

-- ---- rules that take a timeline

committed_keeps : (h : History) (seen : Timeline) (session : NodeId) (tl : Timeline) → Took (known h) session tl → Took (known (committed seen h)) session tl
committed_keeps h seen session tl (taking, inl e, is, has) =
    (with_taken seen taking, inl (ap (λ (t : Taking). with_taken seen t) e), is, has_left (taking.first ∷ taking.later) (seen ∷ []) tl has)
committed_keeps h seen session tl (taking, inr there, is, has) = (taking, inr there, is, has)

updated_keeps : (id : NodeId) (change : Taking → Taking) (rows : List Taking) (row : Taking) → Has rows row
    → Has (updated_by session_of id change rows) row ⊎ Has (updated_by session_of id change rows) (change row)
updated_keeps id change [] row has = absurd has
updated_keeps id change (r ∷ rows) row has =
    by_test
    (λ b. Has (if b then change r ∷ rows else r ∷ updated_by session_of id change rows) row ⊎ Has (if b then change r ∷ rows else r ∷ updated_by session_of id change rows) (change row))
    (same_id r.session id)
    (λ _. elim has as (λ _. Has (change r ∷ rows) row ⊎ Has (change r ∷ rows) (change row)) [
      | inl e ↦ inr (inl (ap change e))
      | inr h ↦ inl (inr h)
    ])
    (λ _. elim has as (λ _. Has (r ∷ updated_by session_of id change rows) row ⊎ Has (r ∷ updated_by session_of id change rows) (change row)) [
      | inl e ↦ inl (inl e)
      | inr h ↦ elim (updated_keeps id change rows row h) as (λ _. Has (r ∷ updated_by session_of id change rows) row ⊎ Has (r ∷ updated_by session_of id change rows) (change row)) [
        | inl kept ↦ inl (inr kept)
        | inr changed ↦ inr (inr changed)
      ]
    ])

taken_by_keeps : (found : Option Taking) (h : History) (told : NodeId) (seen : Timeline) (session : NodeId) (tl : Timeline) → Took (known h) session tl
    → Took (known (taken_by found h told seen)) session tl
taken_by_keeps (Some other) h told seen session tl (taking, inl e, is, has) = (taking, inl e, is, has)
taken_by_keeps (Some other) h told seen session tl (taking, inr there, is, has) =
    elim (updated_keeps told (with_taken seen) h.others taking there) as (λ _. Took (h.current ∷ updated_by session_of told (with_taken seen) h.others) session tl) [
      | inl kept ↦ (taking, inr kept, is, has)
      | inr changed ↦ (with_taken seen taking, inr changed, is, has_left (taking.first ∷ taking.later) (seen ∷ []) tl has)
    ]
taken_by_keeps None h told seen session tl (taking, there, is, has) =
    by_test
    (λ b. Took (known (if b then record h { others = h.others ++ begun told seen ∷ [] } else h)) session tl)
    (nat_lt (length h.others) 64)
    (λ _. (taking, has_left (known h) (begun told seen ∷ []) taking there, is, has)) (λ _. (taking, there, is, has))

saw_keeps : (h : History) (told : NodeId) (seen : Timeline) (session : NodeId) (tl : Timeline) → Took (known h) session tl → Took (known (saw_after h told seen)) session tl
unfolding saw_after
saw_keeps h told seen session tl took =
    by_test
    (λ b. Took (known (if b then record h { current = with_taken seen h.current } else taken_by (other_in told h) h told seen)) session tl)
    (is_current told h)
    (λ _. committed_keeps h seen session tl took) (λ _. taken_by_keeps (other_in told h) h told seen session tl took)

-- ---- a message

pub followed-sessions : (answer : Saw) (session : NodeId) (m : Machine) → (followed answer session m).sessions ≡ m.sessions
unfolding renewed
followed-sessions saw.New session m = refl
followed-sessions saw.Taken session m =
    by_test (λ b. (if b then renewed m else m).sessions ≡ m.sessions) (taking_rules.is_current session m) (λ _. refl) (λ _. refl)
followed-sessions saw.Kept session m = refl
followed-sessions saw.Full session m = refl

start-sessions : (fields : PeerFields) (m : Machine) → (start_taken fields m).sessions ≡ m.sessions
unfolding start_taken
start-sessions fields m =
    by_test (λ b. (if b then with_start fields.start m else m).sessions ≡ m.sessions) (taking_rules.is_current fields.session m) (λ _. refl) (λ _. refl)

pub fields-sessions : (fields : PeerFields) (m : Machine) → (start_taken fields (timeline_taken fields m)).sessions ≡ saw_after m.sessions fields.session (tidy_of fields.timeline)
unfolding timeline_taken
fields-sessions fields m =
    start-sessions fields (timeline_taken fields m)
    ∙ followed-sessions (saw_of m.sessions fields.session (tidy_of fields.timeline)) fields.session (record m { sessions = saw_after m.sessions fields.session (tidy_of fields.timeline) })

fields_keep : (fields : PeerFields) (m : Machine) (session : NodeId) (tl : Timeline) → IsTakenIn m session tl → IsTakenIn (start_taken fields (timeline_taken fields m)) session tl
fields_keep fields m session tl took =
    subst (λ (h : History). Took (known h) session tl) (sym (fields-sessions fields m)) (saw_keeps m.sessions fields.session (tidy_of fields.timeline) session tl took)

listened_keeps : (answer : Seen) (fields : PeerFields) (m : Machine) (session : NodeId) (tl : Timeline) → IsTakenIn m session tl → IsTakenIn (listened answer fields m) session tl
listened_keeps seen.TableFull fields m session tl took = took
listened_keeps seen.New fields m session tl took = fields_keep fields m session tl took
listened_keeps seen.Known fields m session tl took = fields_keep fields m session tl took

heard_keeps : (b : Bool) (gate : Gate) (msg : StateMsg) (m : Machine) (session : NodeId) (tl : Timeline) → IsTakenIn m session tl
    → IsTakenIn (if b then state_taken gate msg m else m) session tl
unfolding state_taken sighted
heard_keeps true gate msg m session tl took = listened_keeps (seen_of gate msg.from m.life) msg.fields (sighted gate msg m) session tl took
heard_keeps false gate msg m session tl took = took

bye_keeps : (b : Bool) (gate : Gate) (id : NodeId) (m : Machine) (session : NodeId) (tl : Timeline) → IsTakenIn m session tl
    → IsTakenIn (if b then record m { life = said_goodbye gate id m.life } else m) session tl
bye_keeps true gate id m session tl took = took
bye_keeps false gate id m session tl took = took

arrived_keeps : (gate : Gate) (from : Endpoint) (reading : Result MessageValue WireFault) (m : Machine) (session : NodeId) (tl : Timeline) → AreDistinct (map session_of (known m.sessions))
    → IsTakenIn m session tl → IsKnownIn (arrived gate from reading m) session → IsTakenIn (arrived gate from reading m) session tl
arrived_keeps gate from (Ok (message.Alive msg)) m session tl distinct took knows = heard_keeps (is_heard msg.from msg.group m) gate msg m session tl took
arrived_keeps gate from (Ok (message.Response msg)) m session tl distinct took knows = heard_keeps (is_heard msg.from msg.group m) gate msg m session tl took
arrived_keeps gate from (Ok (message.Bye id ttl group)) m session tl distinct took knows = bye_keeps (is_heard id group m) gate id m session tl took
arrived_keeps gate from (Ok (message.Ping payload)) m session tl distinct took knows = took
arrived_keeps gate from (Ok (message.Pong pong)) m session tl distinct took knows =
    left_whole (known m.sessions) (known (pong_heard gate from pong m).sessions) distinct (in_pong gate from pong m) session tl took knows
arrived_keeps gate from (Ok (message.OtherDiscovery kind)) m session tl distinct took knows = took
arrived_keeps gate from (Ok (message.OtherLink kind)) m session tl distinct took knows = took
arrived_keeps gate from (Err fault) m session tl distinct took knows = took

-- ---- a commit

pub start_committed-sessions : (start : Option ClientStart) (m : Machine) → (start_committed start m).sessions ≡ m.sessions
unfolding start_committed
start_committed-sessions None m = refl
start_committed-sessions (Some start) m =
    by_test (λ b. (if b then with_client_start start m else m).sessions ≡ m.sessions) (int_lt m.client_start.stamp start.stamp) (λ _. refl) (λ _. refl)

committed_by-keeps : (given : Option Timeline) (client : Timeline) (commit : Commit) (m : Machine) (session : NodeId) (tl : Timeline) → IsTakenIn m session tl
    → IsTakenIn (committed_by given client commit m) session tl
unfolding renewed
committed_by-keeps None client commit m session tl took = took
committed_by-keeps (Some given) client commit m session tl took =
    subst (λ (h : History). Took (known h) session tl) (sym (start_committed-sessions commit.start (client_taken (Some given) client m))) (committed_keeps m.sessions given session tl took)

timeline_committed-keeps : (client : Option Timeline) (commit : Commit) (m : Machine) (session : NodeId) (tl : Timeline) → IsTakenIn m session tl
    → IsTakenIn (timeline_committed client commit m) session tl
timeline_committed-keeps None commit m session tl took =
    subst (λ (h : History). Took (known h) session tl) (sym (start_committed-sessions commit.start m)) took
timeline_committed-keeps (Some client) commit m session tl took =
    committed_by-keeps (session_from_client_of (timeline_in m) client commit.at (offset_in m)) client commit m session tl took

commit_keeps : (commit : Commit) (m : Machine) (session : NodeId) (tl : Timeline) → IsTakenIn m session tl → IsTakenIn (commit_taken commit m) session tl
unfolding commit_taken
commit_keeps commit m session tl took = timeline_committed-keeps commit.timeline commit m session tl took

-- ---- the step

taken_keeps : (e : EventValue) (m : Machine) (session : NodeId) (tl : Timeline) → AreDistinct (map session_of (known m.sessions)) → IsTakenIn m session tl
    → IsKnownIn (taken e m) session → IsTakenIn (taken e m) session tl
unfolding app_taken audio_taken
taken_keeps (Rx gate from bytes now) m session tl distinct took knows = arrived_keeps gate from (reading_of bytes) m session tl distinct took knows
taken_keeps (Tick now) m session tl distinct took knows = left_whole (known m.sessions) (known (ticked m).sessions) distinct (in_ticked m) session tl took knows
taken_keeps (App commit now) m session tl distinct took knows = commit_keeps commit (record m { app = m.app + 1 }) session tl took
taken_keeps (Audio number commit now) m session tl distinct took knows = commit_keeps commit (record m { audio = number }) session tl took
taken_keeps (End now) m session tl distinct took knows = took

-- where no session is founded, settling leaves the sessions
pub sessions_stay : (m : Machine) (e : EventValue) → (step_of m e).drawn ≡ m.drawn → (step_of m e).sessions ≡ (midst m e).sessions
sessions_stay m e same =
    (stands_step m e).sessions ∙ ap (λ (n : Machine). n.sessions) (not_left-settled (midst m e) (no_founding m e same))

pub step_keeps : (m : Machine) (e : EventValue) (session : NodeId) (tl : Timeline) → AreDistinct (map session_of (known m.sessions)) → (step_of m e).drawn ≡ m.drawn
    → IsTakenIn m session tl → IsKnownIn (step_of m e) session → IsTakenIn (step_of m e) session tl
step_keeps m e session tl distinct same took knows =
    let is = sessions_stay m e same in
    subst (λ (h : History). Took (known h) session tl) (sym is)
    (taken_keeps e (at_moment (moment_of e) m) session tl distinct took (subst (λ (h : History). Knows (known h) session) is knows))

-- the current session's list is the one that is known under its id
pub held_keeps : (m : Machine) (e : EventValue) (tl : Timeline) → AreDistinct (map session_of (known m.sessions)) → AreDistinct (map session_of (known (step_of m e).sessions))
    → (step_of m e).drawn ≡ m.drawn → session_in (step_of m e) ≡ session_in m → Has (taken_in m) tl → Has (taken_in (step_of m e)) tl
held_keeps m e tl distinct after same stays has =
    let n = step_of m e in
    let took = step_keeps m e (session_in m) tl distinct same (m.sessions.current, inl refl, refl, has) (n.sessions.current, inl refl, stays) in
    let is : took.0 ≡ n.sessions.current = unique (known n.sessions) after took.0 n.sessions.current took.1 (inl refl) (took.2 ∙ sym stays) in
    subst (λ (t : Taking). Has (t.first ∷ t.later) tl) is took.3
