-- Nobody holds or tells a timeline that nobody made: turn by turn.
use Rattle.std.proofs.Common.{◌≡◌, ◌<◌, ◌^◌, inl, inr, ℕ, ℤ, lit<, Bool, true, false, List, [], ◌∷◌, length, map, Option, Some, None, Result, Ok, Err, refl, sym, ap, subst, ◌∙◌}
use Rattle.std.specs.Prelude.{if◌then◌else◌, IfSome, option_map, slice_get}
use Rattle.std.specs.List.{AllByRecursion}
use Rattle.lk_base.specs.Endpoint.{IsEndpoint}
use Rattle.lk_base.specs.Ranges.{IsMoment}
use Rattle.lk_base.specs.declared.endpoint.Endpoint.{Endpoint}
use Rattle.lk_base.specs.declared.endpoint.Gate.{Gate}
use Rattle.lk_base.specs.declared.ids.NodeId.{NodeId}
use Rattle.lk_base.specs.declared.start.SessionStart.{SessionStart}
use Rattle.lk_base.specs.declared.timeline.Timeline.{Timeline}
use Rattle.asdp_messages.specs.Datagram.{MessageValue, TellsNoState}
use Rattle.asdp_messages.specs.Datagram as message
use Rattle.asdp_messages.specs.Reading.{reading_of}
use Rattle.asdp_messages.specs.Spelling.{Written, spelled_of, sent}
use Rattle.asdp_messages.specs.Spelling as written
use Rattle.asdp_messages.specs.Written.{IsTidyMessage}
use Rattle.asdp_messages.specs.declared.fault.WireFault.{WireFault}
use Rattle.asdp_messages.specs.declared.message.StateMsg.{StateMsg}
use Rattle.peer_gateway.specs.Happenings.{Has}
use Rattle.session_choice.specs.History.{Taking, History, begun, best_in}
use Rattle.timeline_math.specs.Tidying.{tidy_of}
use Rattle.client_state.specs.Starts.{latest_start_of}
use Rattle.client_state.specs.Timelines.{session_from_client_of}
use Rattle.client_state.specs.declared.commit.Commit.{Commit}
use Rattle.link_node.specs.Brought.{IsTakenIn, given_of, given_by, committed_by, founded_by, made_by, TellsTimeline, Brings}
use Rattle.link_node.specs.Config.{ConfigValue, IsConfig}
use Rattle.link_node.specs.Event.{EventValue, Rx, Tick, App, Audio, End, Fits, SendingValue, moment_of}
use Rattle.link_node.specs.Machine.{Machine, still, session_in, timeline_in, offset_in}
use Rattle.link_node.specs.Opening.{opened}
use Rattle.link_node.specs.Settling.{is_left, id_drawn, founding_timeline_in}
use Rattle.link_node.specs.Staying.{ShowsBest}
use Rattle.link_node.specs.Step.{at_moment, taken, before_broadcast, step_of, sends_of}
use Rattle.link_node.specs.Telling.{fields_in}
use Rattle.link_node.specs.WellFormed.{IsMachine}
use Rattle.link_world.specs.Made.{IsMadeBy, IsMadeAfter, opened_with}
use Rattle.link_world.specs.Stored.{IsStoredConfig, IsStoredGate, IsStoredId}
use Rattle.link_world.specs.World.{WorldValue, TurnValue, Local, Deliver, Happens, IsAfter, opened_world, unless_datagram, brought_by, peer_of}
use Rattle.link_world.proofs.BestLemmas.{best_there}
use Rattle.link_world.proofs.LowerLaws.{Laws}
use Rattle.link_world.proofs.Lists.{has_parts, has_set, has_got, has_mapped, maps_has, each}
use Rattle.link_world.proofs.SaidLemmas.{IsStateOf, IsSaid, IsSaidIn, all_said}
use Rattle.link_world.proofs.StandingLemmas.{some_same, no_some}
use Rattle.link_world.proofs.StepLemmas.{TellsAlike, after_step, drawn_stored, id_stored, tidy_stays, timeline_tidy, start_limits}

-- the session's id is one of code, and the timeline was made for it
abbrev IsFrom : (NodeId → Timeline → Type 0) → NodeId → Timeline → Type 0
IsFrom Made session tl = IsStoredId session × Made session tl

pub record IsSound (Made : NodeId → Timeline → Type 0) (m : Machine) : Type 0 where
  pub machine : IsMachine m
  pub id : IsStoredId m.id
  pub group : m.config.group < 2 ^ 16
  pub gates : AllByRecursion IsStoredGate m.config.gates
  pub shows : ShowsBest m
  pub taken : (session : NodeId) (tl : Timeline) → IsTakenIn m session tl → IsFrom Made session tl

pub record AreSound (Made : NodeId → Timeline → Type 0) (world : WorldValue) : Type 0 where
  pub machines : (m : Machine) → Has world.machines m → IsSound Made m
  pub told : (sending : SendingValue) → Has world.sent sending → (session : NodeId) (tl : Timeline)
      → TellsTimeline (reading_of sending.bytes) session tl → IsFrom Made session tl

-- what the current session has taken
pub taken_now : (m : Machine) (tl : Timeline) → Has (m.sessions.current.first ∷ m.sessions.current.later) tl → IsTakenIn m (session_in m) tl
taken_now m tl has = (m.sessions.current, inl refl, refl, has)

session_stored : (Made : NodeId → Timeline → Type 0) (m : Machine) → IsSound Made m → IsStoredId (session_in m)
session_stored Made m sound = (sound.taken (session_in m) m.sessions.current.first (taken_now m m.sessions.current.first (inl refl))).0

-- ---- what is made has an id of code

first_same : (a b : NodeId) (x y : Timeline) → ◌≡◌ {A = NodeId × Timeline} (a, x) (b, y) → a ≡ b
first_same a b x y e = ap (λ (p : NodeId × Timeline). p.0) e

given_stored : (m : Machine) (given : Option Timeline) (session : NodeId) (tl : Timeline) → IsStoredId (session_in m) → Has (given_of given m) (session, tl) → IsStoredId session
given_stored m None session tl stored has = absurd has
given_stored m (Some given) session tl stored has =
    elim has as (λ _. IsStoredId session) [
      | inl e ↦ subst (λ (id : NodeId). IsStoredId id) (first_same (session_in m) session given tl e) stored
      | inr none ↦ absurd none
    ]

client_stored : (m : Machine) (client : Option Timeline) (commit : Commit) (session : NodeId) (tl : Timeline) → IsStoredId (session_in m)
    → Has (given_by client commit m) (session, tl) → IsStoredId session
client_stored m None commit session tl stored has = absurd has
client_stored m (Some client) commit session tl stored has =
    given_stored m (session_from_client_of (timeline_in m) client commit.at (offset_in m)) session tl stored has

committed_stored : (m : Machine) (e : EventValue) (session : NodeId) (tl : Timeline) → IsStoredId (session_in m) → Has (committed_by e m) (session, tl) → IsStoredId session
committed_stored m (Rx gate from bytes now) session tl stored has = absurd has
committed_stored m (Tick now) session tl stored has = absurd has
committed_stored m (App commit now) session tl stored has = client_stored m commit.timeline commit session tl stored has
committed_stored m (Audio number commit now) session tl stored has = client_stored m commit.timeline commit session tl stored has
committed_stored m (End now) session tl stored has = absurd has

founded_stored : (left : Bool) (seed drawn : ℕ) (founding : Timeline) (session : NodeId) (tl : Timeline)
    → Has {A = NodeId × Timeline} (if left then (id_drawn seed drawn, founding) ∷ [] else []) (session, tl) → IsStoredId session
founded_stored true seed drawn founding session tl has =
    elim has as (λ _. IsStoredId session) [
      | inl e ↦ subst (λ (id : NodeId). IsStoredId id) (first_same (id_drawn seed drawn) session founding tl e) (drawn_stored seed drawn)
      | inr none ↦ absurd none
    ]
founded_stored false seed drawn founding session tl has = absurd has

made_stored : (m : Machine) (e : EventValue) (session : NodeId) (tl : Timeline) → IsStoredId (session_in m) → Has (made_by m e) (session, tl) → IsStoredId session
unfolding made_by
made_stored m e session tl stored has =
    let after = taken e (at_moment (moment_of e) m) in
    elim (has_parts (committed_by e m) (founded_by after) (session, tl) has) as (λ _. IsStoredId session) [
      | inl committed ↦ committed_stored m e session tl stored committed
      | inr founded ↦ founded_stored (is_left after) after.config.seed after.drawn (founding_timeline_in after) session tl founded
    ]

-- ---- a step

pub sound_step : Laws → (Made : NodeId → Timeline → Type 0) (m : Machine) (e : EventValue) → IsSound Made m → Fits (length m.config.gates) m.app m.audio e
    → ((session : NodeId) (tl : Timeline) → Has (made_by m e) (session, tl) → Made session tl)
    → ((session : NodeId) (tl : Timeline) → Brings e session tl → IsFrom Made session tl)
    → IsSound Made (step_of m e)
sound_step laws Made m e sound fits makes brings = record {
  machine = laws.step m e sound.machine fits;
  id = id_stored laws m e sound.id;
  group = subst (λ (config : ConfigValue). config.group < 2 ^ 16) (sym (laws.config m e)) sound.group;
  gates = subst (λ (config : ConfigValue). AllByRecursion IsStoredGate config.gates) (sym (laws.config m e)) sound.gates;
  shows = record { following = laws.follows m e sound.shows.following; shown = laws.shown m e };
  taken = λ session tl took.
      elim (laws.brought m e session tl took) as (λ _. IsFrom Made session tl) [
        | inl old ↦ sound.taken session tl old
        | inr new ↦ elim new as (λ _. IsFrom Made session tl) [
          | inl made ↦ (made_stored m e session tl (session_stored Made m sound) made, makes session tl made)
          | inr told ↦ brings session tl told
        ]
      ];
}

-- ---- what is sent

-- the state of a sound machine is read as it is told
tidy_state : Laws → (Made : NodeId → Timeline → Type 0) (m : Machine) (endpoint : Option Endpoint) → IsSound Made m → IfSome endpoint IsEndpoint
    → IsTidyMessage (sent m.id m.config.group (fields_in endpoint m))
tidy_state laws Made m endpoint sound stored = record {
  ttl = lit< tt;
  group = sound.group;
  from = sound.id;
  stored = record { session = session_stored Made m sound; address = stored };
  fields = record {
    timeline = timeline_tidy laws m sound.machine;
    beats = (start_limits m sound.machine).0;
    stamp = (start_limits m sound.machine).1;
  };
}

-- this is so of a machine's session and the timeline that counts there
abbrev pub IsHeld : (NodeId → Timeline → Type 0) → Machine → Type 0
IsHeld P m = P (session_in m) (timeline_in m)

held_from : Laws → (Made : NodeId → Timeline → Type 0) (m : Machine) → IsSound Made m → IsHeld (IsFrom Made) m
held_from laws Made m sound =
    sound.taken (session_in m) (timeline_in m) (taken_now m (timeline_in m) (best_there (m.sessions.current.first ∷ m.sessions.current.later) (timeline_in m) (laws.best m)))

-- what is read as this state tells what the machine's session holds
told_state : Laws → (P : NodeId → Timeline → Type 0) (m : Machine) → IsMachine m → IsHeld P m → (session : NodeId) (tl : Timeline)
    → (session_in m ≡ session) × (tidy_of (timeline_in m) ≡ tl) → P session tl
told_state laws P m is held session tl tells =
    let same : timeline_in m ≡ tl = sym (tidy_stays (timeline_in m) (timeline_tidy laws m is)) ∙ tells.1 in
    subst (λ (id : NodeId). P id tl) tells.0 (subst (λ (t : Timeline). P (session_in m) t) same held)

tells_nothing : (reading : Result MessageValue WireFault) (session : NodeId) (tl : Timeline) → TellsNoState reading → TellsTimeline reading session tl → ⊥
tells_nothing (Ok (message.Alive msg)) session tl none tells = none
tells_nothing (Ok (message.Response msg)) session tl none tells = none
tells_nothing (Ok (message.Bye id ttl group)) session tl none tells = tells
tells_nothing (Ok (message.Ping payload)) session tl none tells = tells
tells_nothing (Ok (message.Pong pong)) session tl none tells = tells
tells_nothing (Ok (message.OtherDiscovery kind)) session tl none tells = tells
tells_nothing (Ok (message.OtherLink kind)) session tl none tells = tells
tells_nothing (Err fault) session tl none tells = tells

-- and so is a state that it tells
read_state : Laws → (Made P : NodeId → Timeline → Type 0) (m : Machine) (w : StateMsg → Written) (read : StateMsg → MessageValue) (msg : StateMsg) → IsSound Made m → IsHeld P m
    → IsStateOf m msg → (IsTidyMessage msg → reading_of (spelled_of (w msg)) ≡ Ok (read msg))
    → ((session : NodeId) (tl : Timeline) → TellsTimeline (Ok (read msg)) session tl → (msg.fields.session ≡ session) × (tidy_of msg.fields.timeline ≡ tl))
    → (session : NodeId) (tl : Timeline) → TellsTimeline (reading_of (spelled_of (w msg))) session tl → P session tl
read_state laws Made P m w read msg sound held state is_read means session tl tells =
    let is_tidy = subst (λ (k : StateMsg). IsTidyMessage k) (sym state.is) (tidy_state laws Made m state.endpoint sound state.stored) in
    let told = subst (λ (r : Result MessageValue WireFault). TellsTimeline r session tl) (is_read is_tidy) tells in
    told_state laws P m sound.machine held session tl
    (subst (λ (k : StateMsg). (k.fields.session ≡ session) × (tidy_of k.fields.timeline ≡ tl)) state.is (means session tl told))

-- what is told before a broadcast is told after it
state_after : (b after : Machine) (msg : StateMsg) → TellsAlike b after → IsStateOf b msg → IsStateOf after msg
state_after b after msg alike state =
    let told : ℕ → NodeId → History → List SessionStart → StateMsg = λ group id h starts.
    sent id group (record { timeline = best_in h.current; session = h.current.session; start = latest_start_of still starts; endpoint = state.endpoint }) in
    record {
      endpoint = state.endpoint;
      stored = state.stored;
      is =
          state.is
          ∙ ap (λ (config : ConfigValue). told config.group b.id b.sessions b.starts) alike.config
          ∙ ap (λ (id : NodeId). told after.config.group id b.sessions b.starts) alike.id
          ∙ ap (λ (h : History). told after.config.group after.id h b.starts) alike.sessions
          ∙ ap (λ (l : List SessionStart). told after.config.group after.id after.sessions l) alike.starts;
    }

said_from : Laws → (Made P : NodeId → Timeline → Type 0) (m after : Machine) (e : EventValue) → IsSound Made m → IsSound Made after → IsHeld P m → IsHeld P after
    → TellsAlike (before_broadcast e m) after → (w : Written) → IsSaid m e w
    → (session : NodeId) (tl : Timeline) → TellsTimeline (reading_of (spelled_of w)) session tl → P session tl
said_from laws Made P m after e sound sound_after held held_after alike (written.Alive msg) said session tl tells =
    read_state laws Made P after (λ k. written.Alive k) (λ k. message.Alive k) msg sound_after held_after (state_after (before_broadcast e m) after msg alike said)
    (λ is_tidy. laws.read (written.Alive msg) (message.Alive msg) is_tidy refl) (λ _ _ h. h) session tl tells
said_from laws Made P m after e sound sound_after held held_after alike (written.Response msg) said session tl tells =
    read_state laws Made P m (λ k. written.Response k) (λ k. message.Response k) msg sound held said
    (λ is_tidy. laws.read (written.Response msg) (message.Response msg) is_tidy refl) (λ _ _ h. h) session tl tells
said_from laws Made P m after e sound sound_after held held_after alike (written.Bye id ttl group) said session tl tells =
    let short : ttl < 256 = subst (λ (n : ℕ). n < 256) (sym said.1) (lit< tt) in
    let few : group < 2 ^ 16 = subst (λ (n : ℕ). n < 2 ^ 16) (sym said.2) sound.group in
    let own : IsStoredId id = subst (λ (i : NodeId). IsStoredId i) (sym said.0) sound.id in
    let read = laws.read (written.Bye id ttl group) (message.Bye id ttl group) (short, few, own) refl in
    absurd (subst (λ (r : Result MessageValue WireFault). TellsTimeline r session tl) read tells)
said_from laws Made P m after e sound sound_after held held_after alike (written.Ping ping) said session tl tells =
    absurd (tells_nothing (reading_of (spelled_of (written.Ping ping))) session tl (laws.ping ping) tells)
said_from laws Made P m after e sound sound_after held held_after alike (written.Pong pong ghost_time echo) said session tl tells =
    absurd (tells_nothing (reading_of (spelled_of (written.Pong pong ghost_time echo))) session tl (laws.pong pong ghost_time echo) tells)

-- what holds of the session's timeline before the step and after it holds of what the step's datagrams tell
pub told_sends : Laws → (Made P : NodeId → Timeline → Type 0) (m : Machine) (e : EventValue) → IsSound Made m → IsSound Made (step_of m e) → IsHeld P m → IsHeld P (step_of m e)
    → (sending : SendingValue) → Has (sends_of m e) sending → (session : NodeId) (tl : Timeline) → TellsTimeline (reading_of sending.bytes) session tl → P session tl
told_sends laws Made P m e sound sound_after held held_after sending has session tl tells =
    let alike = after_step m e in
    let own = subst (λ (config : ConfigValue). AllByRecursion IsStoredGate config.gates) (sym alike.config) sound_after.gates in
    let said = each (IsSaidIn m e) (sends_of m e) sending (all_said m e sound.gates own) has in
    said_from laws Made P m (step_of m e) e sound sound_after held held_after alike said.0 said.2 session tl
    (subst (λ (bytes : List ℕ). TellsTimeline (reading_of bytes) session tl) said.1 tells)

-- ---- a turn

local_from : (Made : NodeId → Timeline → Type 0) (e event : EventValue) → unless_datagram e ≡ Some event → (session : NodeId) (tl : Timeline) → Brings event session tl → IsFrom Made session tl
local_from Made (Rx gate from bytes now) event brought session tl brings = absurd (no_some event brought)
local_from Made (Tick now) event brought session tl brings = absurd (subst (λ (e : EventValue). Brings e session tl) (sym (some_same (Tick now) event brought)) brings)
local_from Made (App commit now) event brought session tl brings = absurd (subst (λ (e : EventValue). Brings e session tl) (sym (some_same (App commit now) event brought)) brings)
local_from Made (Audio number commit now) event brought session tl brings =
    absurd (subst (λ (e : EventValue). Brings e session tl) (sym (some_same (Audio number commit now) event brought)) brings)
local_from Made (End now) event brought session tl brings = absurd (subst (λ (e : EventValue). Brings e session tl) (sym (some_same (End now) event brought)) brings)

delivered_from : (Made : NodeId → Timeline → Type 0) (world : WorldValue) → AreSound Made world → (index : ℕ) (gate : Gate) (from : Endpoint) (now : ℤ) (event : EventValue)
    (found : Option SendingValue) → slice_get world.sent index ≡ found → option_map (λ (sending : SendingValue). Rx gate from sending.bytes now) found ≡ Some event
    → (session : NodeId) (tl : Timeline) → Brings event session tl → IsFrom Made session tl
delivered_from Made world sound index gate from now event None at brought session tl brings = absurd (no_some event brought)
delivered_from Made world sound index gate from now event (Some sending) at brought session tl brings =
    sound.told sending (has_got world.sent index sending at) session tl
    (subst (λ (e : EventValue). Brings e session tl) (sym (some_same (Rx gate from sending.bytes now) event brought)) brings)

-- what an event brings was told
brought_from : (Made : NodeId → Timeline → Type 0) (world : WorldValue) → AreSound Made world → (turn : TurnValue) (event : EventValue)
    → brought_by world.sent turn ≡ Some event → (session : NodeId) (tl : Timeline) → Brings event session tl → IsFrom Made session tl
brought_from Made world sound (Local peer e) event brought session tl brings = local_from Made e event brought session tl brings
brought_from Made world sound (Deliver index peer gate from now) event brought session tl brings =
    delivered_from Made world sound index gate from now event (slice_get world.sent index) refl brought session tl brings

pub sound_turn : Laws → (Made : NodeId → Timeline → Type 0) (turn : TurnValue) (before after : WorldValue) → AreSound Made before → Happens turn before after
    → ((session : NodeId) (tl : Timeline) → IsMadeBy turn before session tl → Made session tl) → AreSound Made after
sound_turn laws Made turn before after sound (inr idle) makes = subst (λ (w : WorldValue). AreSound Made w) (sym idle.after_is) sound
sound_turn laws Made turn before after sound (inl step) makes =
    let m = step.machine in
    let e = step.event in
    let at = peer_of turn in
    let was = sound.machines m (has_got before.machines at m step.reaches.there) in
    let next = sound_step laws Made m e was step.reaches.fits
    (λ session tl made. makes session tl (record { machine = m; event = e; reaches = step.reaches; made = made }))
    (brought_from Made before sound turn e step.reaches.brought) in
    subst (λ (w : WorldValue). AreSound Made w) (sym step.after_is) (record {
      machines = λ n has.
          elim (has_set before.machines at (step_of m e) n has) as (λ _. IsSound Made n) [
            | inl new ↦ subst (λ (k : Machine). IsSound Made k) new next
            | inr old ↦ sound.machines n old
          ];
      told = λ sending has session tl tells.
          elim (has_parts before.sent (sends_of m e) sending has) as (λ _. IsFrom Made session tl) [
            | inl old ↦ sound.told sending old session tl tells
            | inr new ↦ told_sends laws Made (IsFrom Made) m e was next (held_from laws Made m was) (held_from laws Made (step_of m e) next) sending new session tl tells
          ];
    })

-- ---- a schedule

pub sound_after : Laws → (Made : NodeId → Timeline → Type 0) (before after : WorldValue) (turns : List TurnValue) → AreSound Made before → IsAfter before turns after
    → ((session : NodeId) (tl : Timeline) → IsMadeAfter before turns session tl → Made session tl) → AreSound Made after
sound_after laws Made before after [] sound led makes = subst (λ (w : WorldValue). AreSound Made w) (sym led) sound
sound_after laws Made before after (turn ∷ turns) sound led makes =
    sound_after laws Made led.0 after turns
    (sound_turn laws Made turn before led.0 sound led.1 (λ session tl made. makes session tl (inl made))) led.2
    (λ session tl made. makes session tl (inr (led.0, led.1, made)))

-- ---- the opening

begun_from : (Made : NodeId → Timeline → Type 0) (id : NodeId) (first : Timeline) (taking : Taking) (session : NodeId) (tl : Timeline) → IsFrom Made id first
    → Has (begun id first ∷ []) taking → taking.session ≡ session → Has (taking.first ∷ taking.later) tl → IsFrom Made session tl
begun_from Made id first taking session tl from (inr none) same has = absurd none
begun_from Made id first taking session tl from (inl e) same has =
    let told : (id ≡ session) → Has (first ∷ []) tl → IsFrom Made session tl = λ at there.
    elim there as (λ _. IsFrom Made session tl) [
      | inl t ↦ subst (λ (i : NodeId). IsFrom Made i tl) at (subst (λ (k : Timeline). IsFrom Made id k) t from)
      | inr none ↦ absurd none
    ] in
    subst (λ (k : Taking). (k.session ≡ session) → Has (k.first ∷ k.later) tl → IsFrom Made session tl) e told same has

sound_opened : Laws → (Made : NodeId → Timeline → Type 0) (config : ConfigValue) (now : ℤ) → IsConfig config → IsStoredConfig config → IsMoment now
    → Made (opened_with config).0 (opened_with config).1 → IsSound Made (opened config now)
unfolding opened
sound_opened laws Made config now is stored moment made =
    record {
      machine = laws.opening config now is moment;
      id = stored.id;
      group = stored.group;
      gates = stored.gates;
      shows = laws.opening_shows config now moment;
      taken = λ session tl took. begun_from Made config.id (opened_with config).1 took.0 session tl (stored.id, made) took.1 took.2 took.3;
    }

pub sound_opening : Laws → (Made : NodeId → Timeline → Type 0) (configs : List ConfigValue) (now : ℤ) → AllByRecursion IsConfig configs → AllByRecursion IsStoredConfig configs
    → IsMoment now → ((session : NodeId) (tl : Timeline) → Has (map opened_with configs) (session, tl) → Made session tl) → AreSound Made (opened_world configs now)
sound_opening laws Made configs now are stored moment makes = record {
  machines = λ m has.
      let one = has_mapped (λ (config : ConfigValue). opened config now) configs m has in
      subst (λ (k : Machine). IsSound Made k) one.2
      (sound_opened laws Made one.0 now (each IsConfig configs one.0 are one.1) (each IsStoredConfig configs one.0 stored one.1) moment
      (makes (opened_with one.0).0 (opened_with one.0).1 (maps_has opened_with configs one.0 one.1)));
  told = λ sending has. absurd has;
}
