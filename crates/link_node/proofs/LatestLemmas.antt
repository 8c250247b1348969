-- That a start which is later than the session's is taken.
use Rattle.std.proofs.Common.{◌≡◌, ◌⊎◌, inl, inr, ◌+◌, ◌<ℤ◌, true, [], ◌∷◌, ◌++◌, Option, Some, None, Result, Ok, refl, sym, ap, ◌∙◌, subst}
use Rattle.std.specs.Prelude.{int_lt, ◌&&◌, if◌then◌else◌}
use Rattle.ghost_xform.specs.GhostTime.{ghost_of}
use Rattle.lk_base.specs.declared.endpoint.Endpoint.{Endpoint}
use Rattle.lk_base.specs.declared.endpoint.Gate.{Gate}
use Rattle.lk_base.specs.declared.ids.NodeId.{NodeId}
use Rattle.lk_base.specs.declared.start.ClientStart.{ClientStart}
use Rattle.lk_base.specs.declared.start.SessionStart.{SessionStart}
use Rattle.lk_base.specs.declared.timeline.Timeline.{Timeline}
use Rattle.link_payload.specs.declared.fields.PeerFields.{PeerFields}
use Rattle.asdp_messages.specs.Datagram.{MessageValue}
use Rattle.asdp_messages.specs.Datagram as message
use Rattle.asdp_messages.specs.Reading.{reading_of}
use Rattle.asdp_messages.specs.declared.fault.WireFault.{WireFault}
use Rattle.asdp_messages.specs.declared.message.StateMsg.{StateMsg}
use Rattle.peer_gateway.specs.Answers.{seen_of}
use Rattle.peer_gateway.specs.declared.row.Seen.{Seen}
use Rattle.peer_gateway.specs.declared.row.Seen.TheVariants as seen
use Rattle.session_choice.specs.History.{History, best_in, saw_of, saw_after}
use Rattle.session_choice.specs.declared.verdict.Saw.{Saw}
use Rattle.session_choice.specs.declared.verdict.Saw.TheVariants as saw
use Rattle.timeline_math.specs.Tidying.{tidy_of}
use Rattle.client_state.specs.Starts.{start_to_client_of, start_to_session_of, latest_start_of}
use Rattle.client_state.specs.Timelines.{session_from_client_of}
use Rattle.client_state.specs.declared.commit.Commit.{Commit}
use Rattle.client_state.proofs.StartLemmas.{later-seen}
use Rattle.link_node.specs.Arrival.{arrived, is_heard}
use Rattle.link_node.specs.Client.{renewed}
use Rattle.link_node.specs.Commits.{start_committed, rest_committed, with_client_start, client_taken, committed_by, timeline_committed, commit_taken, app_taken, audio_taken}
use Rattle.link_node.specs.Event.{EventValue, Rx, Tick, App, Audio, End}
use Rattle.link_node.specs.Machine.{Machine, still, session_in, timeline_in, offset_in, start_in}
use Rattle.link_node.specs.Staying.{Hears, IsSpent, commit_in}
use Rattle.link_node.specs.Step.{at_moment, step_of}
use Rattle.link_node.specs.Taking.{is_current, followed, timeline_taken, with_start, start_taken, sighted, listened, state_taken}
use Rattle.peer_gateway.proofs.KeyLemmas.{test_from_id}
use Rattle.session_choice.proofs.Lists.{by_test}
use Rattle.link_node.proofs.StayingLemmas.{midst, stands_step, no_founding, not_left-settled}
use Rattle.link_node.proofs.LeavingLemmas.{timeline-session}
use Rattle.link_node.proofs.KeptLemmas.{sessions_stay}
use Rattle.link_node.proofs.CountingLemmas.{is_below}

-- the last of these, where it is later than each before
latest-next : (m : Machine) (start : SessionStart) → (start_in m).stamp <ℤ start.stamp → latest_start_of still (m.starts ++ start ∷ []) ≡ start
latest-next m start lt = sym (later-seen (start_in m) start still m.starts lt refl)

-- ---- a message

-- the start is the session's, and with sync the client's
record HasTaken (m n : Machine) (start : SessionStart) : Type 0 where
  session : start_in n ≡ start
  client : m.config.sync ≡ true → n.client_start ≡ start_to_client_of start (timeline_in n) (offset_in n)

-- taking a timeline leaves this
record Leaves (m n : Machine) : Type 0 where
  config : n.config ≡ m.config
  starts : n.starts ≡ m.starts
  client_start : n.client_start ≡ m.client_start

followed-leaves : (answer : Saw) (session : NodeId) (m : Machine) → Leaves m (followed answer session m)
unfolding renewed
followed-leaves saw.New session m = record { config = refl; starts = refl; client_start = refl }
followed-leaves saw.Taken session m =
    by_test (λ b. Leaves m (if b then renewed m else m)) (is_current session m)
    (λ _. record { config = refl; starts = refl; client_start = refl }) (λ _. record { config = refl; starts = refl; client_start = refl })
followed-leaves saw.Kept session m = record { config = refl; starts = refl; client_start = refl }
followed-leaves saw.Full session m = record { config = refl; starts = refl; client_start = refl }

timeline-leaves : (fields : PeerFields) (m : Machine) → Leaves m (timeline_taken fields m)
unfolding timeline_taken
timeline-leaves fields m =
    let is = followed-leaves (saw_of m.sessions fields.session (tidy_of fields.timeline)) fields.session (record m { sessions = saw_after m.sessions fields.session (tidy_of fields.timeline) }) in
    record { config = is.config; starts = is.starts; client_start = is.client_start }

with_start-has : (start : SessionStart) (m : Machine) → (start_in m).stamp <ℤ start.stamp → HasTaken m (with_start start m) start
with_start-has start m lt = record {
  session = latest-next m start lt;
  client = λ sync.
      ap (λ b. if b && m.config.sync then start_to_client_of start (timeline_in m) (offset_in m) else m.client_start) (is_below (start_in m).stamp start.stamp lt)
      ∙ ap (λ b. if b then start_to_client_of start (timeline_in m) (offset_in m) else m.client_start) sync;
}

start-has : (fields : PeerFields) (m : Machine) → fields.session ≡ session_in m → (start_in m).stamp <ℤ fields.start.stamp → HasTaken m (start_taken fields m) fields.start
unfolding start_taken
start-has fields m same lt =
    subst (λ b. HasTaken m (if b then with_start fields.start m else m) fields.start) (sym (test_from_id fields.session (session_in m) same))
    (with_start-has fields.start m lt)

fields-have : (fields : PeerFields) (m : Machine) → fields.session ≡ session_in m → (start_in m).stamp <ℤ fields.start.stamp
    → HasTaken m (start_taken fields (timeline_taken fields m)) fields.start
fields-have fields m same lt =
    let leaves = timeline-leaves fields m in
    let is =
    start-has fields (timeline_taken fields m) (same ∙ sym (timeline-session fields m))
    (subst (λ starts. (latest_start_of still starts).stamp <ℤ fields.start.stamp) (sym leaves.starts) lt) in
    record { session = is.session; client = λ sync. is.client (ap (λ c. c.sync) leaves.config ∙ sync) }

listened-has : (answer : Seen) (fields : PeerFields) (m : Machine) → (answer ≡ seen.TableFull → ⊥) → fields.session ≡ session_in m → (start_in m).stamp <ℤ fields.start.stamp
    → HasTaken m (listened answer fields m) fields.start
listened-has seen.TableFull fields m room same lt = absurd (room refl)
listened-has seen.New fields m room same lt = fields-have fields m same lt
listened-has seen.Known fields m room same lt = fields-have fields m same lt

state-has : (gate : Gate) (msg : StateMsg) (m : Machine) → (seen_of gate msg.from m.life ≡ seen.TableFull → ⊥) → msg.fields.session ≡ session_in m
    → (start_in m).stamp <ℤ msg.fields.start.stamp → HasTaken m (state_taken gate msg m) msg.fields.start
unfolding state_taken sighted
state-has gate msg m room same lt =
    let is = listened-has (seen_of gate msg.from m.life) msg.fields (sighted gate msg m) room same lt in
    record { session = is.session; client = is.client }

heard-has : (gate : Gate) (msg : StateMsg) (m : Machine) → is_heard msg.from msg.group m ≡ true → (seen_of gate msg.from m.life ≡ seen.TableFull → ⊥)
    → msg.fields.session ≡ session_in m → (start_in m).stamp <ℤ msg.fields.start.stamp
    → HasTaken m (if is_heard msg.from msg.group m then state_taken gate msg m else m) msg.fields.start
heard-has gate msg m heard room same lt =
    subst (λ b. HasTaken m (if b then state_taken gate msg m else m) msg.fields.start) (sym heard) (state-has gate msg m room same lt)

arrived-has : (gate : Gate) (from : Endpoint) (reading : Result MessageValue WireFault) (msg : StateMsg) (m : Machine)
    → (reading ≡ Ok (message.Alive msg)) ⊎ (reading ≡ Ok (message.Response msg)) → is_heard msg.from msg.group m ≡ true
    → (seen_of gate msg.from m.life ≡ seen.TableFull → ⊥) → msg.fields.session ≡ session_in m → (start_in m).stamp <ℤ msg.fields.start.stamp
    → HasTaken m (arrived gate from reading m) msg.fields.start
arrived-has gate from reading msg m (inl is) heard room same lt =
    subst (λ (r : Result MessageValue WireFault). HasTaken m (arrived gate from r m) msg.fields.start) (sym is) (heard-has gate msg m heard room same lt)
arrived-has gate from reading msg m (inr is) heard room same lt =
    subst (λ (r : Result MessageValue WireFault). HasTaken m (arrived gate from r m) msg.fields.start) (sym is) (heard-has gate msg m heard room same lt)

midst-has : (m : Machine) (e : EventValue) (msg : StateMsg) → Hears m e msg → msg.fields.session ≡ session_in m → (start_in m).stamp <ℤ msg.fields.start.stamp
    → HasTaken m (midst m e) msg.fields.start
midst-has m (Rx gate from bytes now) msg hears same lt =
    let is = arrived-has gate from (reading_of bytes) msg (at_moment now m) hears.0 hears.1 hears.2 same lt in
    record { session = is.session; client = is.client }
midst-has m (Tick now) msg hears same lt = absurd hears
midst-has m (App commit now) msg hears same lt = absurd hears
midst-has m (Audio number commit now) msg hears same lt = absurd hears
midst-has m (End now) msg hears same lt = absurd hears

-- ---- a commit

-- the start's image is the session's
abbrev HasImage : Machine → ClientStart → Type 0
HasImage n start = start_in n ≡ start_to_session_of start (timeline_in n) (offset_in n)

-- it is later than the client's and than the session's
record IsLater (m : Machine) (start : ClientStart) : Type 0 where
  sync : m.config.sync ≡ true
  client : m.client_start.stamp <ℤ start.stamp
  session : (start_in m).stamp <ℤ ghost_of (offset_in m) start.stamp

with_client_start-has : (start : ClientStart) (m : Machine) → IsLater m start → HasImage (with_client_start start m) start
unfolding start_to_session_of
with_client_start-has start m later =
    let image = start_to_session_of start (timeline_in m) (offset_in m) in
    ap (λ b. latest_start_of still (if b && int_lt (start_in m).stamp (ghost_of (offset_in m) start.stamp) then m.starts ++ image ∷ [] else m.starts)) later.sync
    ∙ ap (λ b. latest_start_of still (if b then m.starts ++ image ∷ [] else m.starts)) (is_below (start_in m).stamp (ghost_of (offset_in m) start.stamp) later.session)
    ∙ latest-next m image later.session

start_committed-has : (start : ClientStart) (m : Machine) → IsLater m start → HasImage (start_committed (Some start) m) start
unfolding start_committed
start_committed-has start m later =
    subst (λ b. HasImage (if b then with_client_start start m else m) start) (sym (is_below m.client_start.stamp start.stamp later.client)) (with_client_start-has start m later)

rest_committed-has : (commit : Commit) (start : ClientStart) (m : Machine) → commit.start ≡ Some start → IsLater m start → HasImage (rest_committed commit m) start
rest_committed-has commit start m begins later =
    subst (λ (s : Option ClientStart). HasImage (start_committed s m) start) (sym begins) (start_committed-has start m later)

committed_by-has : (found : Option Timeline) (client : Timeline) (commit : Commit) (start : ClientStart) (m : Machine) → commit.start ≡ Some start → (found ≡ None → ⊥) → IsLater m start
    → HasImage (committed_by found client commit m) start
unfolding renewed
committed_by-has None client commit start m begins given later = absurd (given refl)
committed_by-has (Some session) client commit start m begins given later =
    rest_committed-has commit start (client_taken (Some session) client m) begins (record { sync = later.sync; client = later.client; session = later.session })

timeline_committed-has : (client : Option Timeline) (commit : Commit) (start : ClientStart) (m : Machine) → commit.timeline ≡ client → commit.start ≡ Some start
    → (IsSpent m commit → ⊥) → IsLater m start → HasImage (timeline_committed client commit m) start
timeline_committed-has None commit start m is begins room later = rest_committed-has commit start m begins later
timeline_committed-has (Some client) commit start m is begins room later =
    committed_by-has (session_from_client_of (timeline_in m) client commit.at (offset_in m)) client commit start m begins (λ none. room (client, is, none)) later

commit-has : (commit : Commit) (start : ClientStart) (m : Machine) → commit.start ≡ Some start → (IsSpent m commit → ⊥) → IsLater m start
    → HasImage (commit_taken commit m) start
unfolding commit_taken
commit-has commit start m begins room later = timeline_committed-has commit.timeline commit start m refl begins room later

midst-image : (m : Machine) (e : EventValue) (commit : Commit) (start : ClientStart) → commit_in e ≡ Some commit → commit.start ≡ Some start → (IsSpent m commit → ⊥)
    → IsLater m start → HasImage (midst m e) start
unfolding app_taken audio_taken
midst-image m (App given now) commit start is begins room later =
    let same : given ≡ commit = cc in
    let next = record m { moment = (at_moment now m).moment; app = m.app + 1 } in
    subst (λ (c : Commit). HasImage (commit_taken c next) start) (sym same)
    (commit-has commit start next begins room (record { sync = later.sync; client = later.client; session = later.session }))
midst-image m (Audio number given now) commit start is begins room later =
    let same : given ≡ commit = cc in
    let next = record m { moment = (at_moment now m).moment; audio = number } in
    subst (λ (c : Commit). HasImage (commit_taken c next) start) (sym same)
    (commit-has commit start next begins room (record { sync = later.sync; client = later.client; session = later.session }))
midst-image m (Rx gate from bytes now) commit start is begins room later = cc
midst-image m (Tick now) commit start is begins room later = cc
midst-image m (End now) commit start is begins room later = cc

-- ---- the step

-- where no session is founded, settling leaves the starts
starts_stay : (m : Machine) (e : EventValue) → (step_of m e).drawn ≡ m.drawn → (step_of m e).starts ≡ (midst m e).starts
starts_stay m e same =
    (stands_step m e).starts ∙ ap (λ (n : Machine). n.starts) (not_left-settled (midst m e) (no_founding m e same))

client_stays : (m : Machine) (e : EventValue) → (step_of m e).drawn ≡ m.drawn → (step_of m e).client_start ≡ (midst m e).client_start
client_stays m e same =
    (stands_step m e).client_start ∙ ap (λ (n : Machine). n.client_start) (not_left-settled (midst m e) (no_founding m e same))

start_stays : (m : Machine) (e : EventValue) → (step_of m e).drawn ≡ m.drawn → start_in (step_of m e) ≡ start_in (midst m e)
start_stays m e same = ap (λ l. latest_start_of still l) (starts_stay m e same)

pub step-latest : (m : Machine) (e : EventValue) (msg : StateMsg) → Hears m e msg → (step_of m e).drawn ≡ m.drawn → msg.fields.session ≡ session_in m
    → (start_in m).stamp <ℤ msg.fields.start.stamp → start_in (step_of m e) ≡ msg.fields.start
step-latest m e msg hears same session lt = start_stays m e same ∙ (midst-has m e msg hears session lt).session

pub step-client : (m : Machine) (e : EventValue) (msg : StateMsg) → Hears m e msg → (step_of m e).drawn ≡ m.drawn → msg.fields.session ≡ session_in m
    → (start_in m).stamp <ℤ msg.fields.start.stamp → m.config.sync ≡ true
    → (step_of m e).client_start ≡ start_to_client_of msg.fields.start (timeline_in (step_of m e)) (offset_in (step_of m e))
step-client m e msg hears same session lt sync =
    client_stays m e same ∙ (midst-has m e msg hears session lt).client sync
    ∙ ap (λ (h : History). start_to_client_of msg.fields.start (best_in h.current) h.offset) (sym (sessions_stay m e same))

pub step-image : (m : Machine) (e : EventValue) (commit : Commit) (start : ClientStart) → commit_in e ≡ Some commit → commit.start ≡ Some start → (IsSpent m commit → ⊥)
    → (step_of m e).drawn ≡ m.drawn → m.config.sync ≡ true → m.client_start.stamp <ℤ start.stamp → (start_in m).stamp <ℤ ghost_of (offset_in m) start.stamp
    → start_in (step_of m e) ≡ start_to_session_of start (timeline_in (step_of m e)) (offset_in (step_of m e))
step-image m e commit start is begins room same sync client session =
    start_stays m e same ∙ midst-image m e commit start is begins room (record { sync = sync; client = client; session = session })
    ∙ ap (λ (h : History). start_to_session_of start (best_in h.current) h.offset) (sym (sessions_stay m e same))
