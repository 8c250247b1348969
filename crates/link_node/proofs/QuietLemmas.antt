-- Events that change nothing but the moment: what is passed over, and ticks before a tick has work.
use Rattle.std.proofs.Common.{◌≡◌, ◌<◌, ◌||◌, ℕ, ℤ, pos, ◌+ℤ◌, ◌≤ℤ◌, ◌<ℤ◌, Bool, true, false, not, List, [], ◌∷◌, ◌++◌, nat_lt, int_lt, int_le, length, filter, map, Option, Some, None, Result, Ok, Err, refl, sym, ap, ◌∙◌, arith}
use Rattle.std.proofs.lemmas.Bool.Decides.{nat_tests}
use Rattle.std.proofs.lemmas.Int.{ints, clamps}
use Rattle.std.proofs.lemmas.List.{append-nil}
use Rattle.std.specs.Prelude.{if◌then◌else◌, is_some, option_map}
use Rattle.std.specs.Int.{int_max, int_min}
use Rattle.std.specs.List.{AllByRecursion}
use Rattle.std.specs.Option.{option_map_or}
use Rattle.lk_base.specs.declared.endpoint.Endpoint.{Endpoint}
use Rattle.lk_base.specs.declared.endpoint.Gate.{Gate}
use Rattle.lk_base.specs.declared.ids.NodeId.{NodeId}
use Rattle.asdp_messages.specs.Datagram.{MessageValue}
use Rattle.asdp_messages.specs.Datagram as message
use Rattle.asdp_messages.specs.Reading.{reading_of}
use Rattle.asdp_messages.specs.declared.fault.WireFault.{WireFault}
use Rattle.peer_gateway.specs.Answers.{least_in, least_limit_of, peers_in, target_of}
use Rattle.peer_gateway.specs.Happenings.{Happening, lives, rows_of, said_goodbye, was_pruned}
use Rattle.peer_gateway.specs.Happenings.Happening.{pruning}
use Rattle.peer_gateway.specs.declared.row.PeerRow.{PeerRow}
use Rattle.peer_gateway.proofs.LifeLemmas.{rows_more}
use Rattle.ping_measure.specs.Life.{Life, deadline_of, is_early, is_over, tick_after}
use Rattle.ping_measure.proofs.OutcomeLemmas.{tick-early}
use Rattle.link_node.specs.Arrival.{answers_to, arrived, pongs_to}
use Rattle.link_node.specs.Broadcast.{broadcast_after, broadcast_in, is_broadcast, is_due_after}
use Rattle.link_node.specs.Due.{broadcast_due, due_of, earliest_of, waiting_due}
use Rattle.link_node.specs.Event.{Rx, Tick, SendingValue}
use Rattle.link_node.specs.Machine.{Machine, session_in}
use Rattle.link_node.specs.Measuring.{judged, measurement_ticked, pings_after_pong, pings_after_tick, pings_by_pong, pings_by_tick, pings_of, pong_by, pong_heard, tick_by}
use Rattle.link_node.specs.Publishing.{alike, change_in, shown, state_in}
use Rattle.link_node.specs.Quiet.{IsPassedOver}
use Rattle.link_node.specs.Settling.{held_in, noted, same_held, settled}
use Rattle.link_node.specs.Step.{at_moment, before_broadcast, before_shown, change_of, sends_of, step_of}
use Rattle.link_node.specs.Taking.{state_taken}
use Rattle.link_node.specs.Telling.{response_to}
use Rattle.link_node.specs.Tick.{begun, begun_from, begun_one, cleared, idle_forgotten, is_remeasured, pings_at, pings_begun, pings_from, pings_of_tick, pruned, remeasure_queued, ticked}
use Rattle.link_node.specs.WellFormed.{IsMachine}
use Rattle.link_node.specs.declared.event.Change.TheVariants.{Same}
use Rattle.link_node.specs.declared.node.settling.Held.{Held}
use Rattle.link_node.proofs.DueLemmas.{IsAfter, settled-counted}
use Rattle.peer_gateway.proofs.KeyLemmas.{test_from_id}
use Rattle.link_node.proofs.WellFormedLemmas.{int_eq-itself, same_bool-itself, same_timeline-itself}

-- ---- the end of an event after which nothing is new

or-none : (b : Bool) → (b || false) ≡ b
or-none true = refl
or-none false = refl

same_held-itself : (held : Held) → same_held held held ≡ true
same_held-itself held =
    rw (
      test_from_id held.id held.id refl,
      test_from_id held.session held.session refl,
      same_timeline-itself held.timeline,
      same_bool-itself held.start.playing,
      int_eq-itself held.start.beats,
      int_eq-itself held.start.stamp,
    ) refl

-- the peers are as they were counted
settled-same : (m : Machine) → m.peers ≡ peers_in (session_in m) m.life → settled m ≡ m
settled-same m is = settled-counted m is ∙ ap (λ (count : ℕ). let n : Machine = record m { peers = count } in n) (sym is)

noted-same : (m n : Machine) → held_in n ≡ held_in m → noted (held_in m) n ≡ n
unfolding noted
noted-same m n is =
    let none : (n.changed || not (same_held (held_in m) (held_in n))) ≡ n.changed =
    ap (λ (held : Held). n.changed || not (same_held (held_in m) held)) is
    ∙ ap (λ b. n.changed || not b) (same_held-itself (held_in m))
    ∙ or-none n.changed in
    ap (λ (b : Bool). let o : Machine = record n { changed = b } in o) none

shown-same : (m : Machine) → alike (state_in m) m.published ≡ true → shown m ≡ m
unfolding shown
shown-same m is = rw is refl

-- ---- a datagram that is passed over

arrived-passed : (gate : Gate) (from : Endpoint) (read : Result MessageValue WireFault) (m : Machine) (now : ℤ) → IsPassedOver m read
    → arrived gate from read (at_moment now m) ≡ at_moment now m
unfolding pong_heard
arrived-passed gate from (Ok (message.Alive msg)) m now passed =
    ap (λ b. if b then state_taken gate msg (at_moment now m) else at_moment now m) passed
arrived-passed gate from (Ok (message.Response msg)) m now passed =
    ap (λ b. if b then state_taken gate msg (at_moment now m) else at_moment now m) passed
arrived-passed gate from (Ok (message.Bye id ttl group)) m now passed =
    let at = at_moment now m in ap (λ b. let n : Machine = if b then record at { life = said_goodbye gate id m.life } else at in n) passed
arrived-passed gate from (Ok (message.Ping payload)) m now passed = refl
arrived-passed gate from (Ok (message.Pong pong)) m now passed = ap (λ o. pong_by o gate from pong (at_moment now m)) passed
arrived-passed gate from (Ok (message.OtherDiscovery kind)) m now passed = refl
arrived-passed gate from (Ok (message.OtherLink kind)) m now passed = refl
arrived-passed gate from (Err fault) m now passed = refl

long : (n : ℕ) → 32 < n → nat_lt 32 n ≡ true
long n lt = grind (arith, nat_tests)

answers-passed : (gate : Gate) (from : Endpoint) (read : Result MessageValue WireFault) (m : Machine) (now : ℤ) → IsPassedOver m read
    → answers_to gate from read (at_moment now m) ≡ []
unfolding pongs_to pings_after_pong
answers-passed gate from (Ok (message.Alive msg)) m now passed =
    ap (λ b. let sends : List SendingValue = if b then response_to gate from (at_moment now m) ∷ [] else [] in sends) passed
answers-passed gate from (Ok (message.Response msg)) m now passed = refl
answers-passed gate from (Ok (message.Bye id ttl group)) m now passed = refl
answers-passed gate from (Ok (message.Ping payload)) m now passed = rw (long (length payload) passed) refl
answers-passed gate from (Ok (message.Pong pong)) m now passed = ap (λ o. pings_by_pong o gate from pong (at_moment now m).moment) passed
answers-passed gate from (Ok (message.OtherDiscovery kind)) m now passed = refl
answers-passed gate from (Ok (message.OtherLink kind)) m now passed = refl
answers-passed gate from (Err fault) m now passed = refl

-- a datagram that itself changes nothing
step-unchanged : (m : Machine) (gate : Gate) (from : Endpoint) (bytes : List ℕ) (now : ℤ) → IsMachine m
    → arrived gate from (reading_of bytes) (at_moment now m) ≡ at_moment now m → step_of m (Rx gate from bytes now) ≡ at_moment now m
unfolding step_of before_shown before_broadcast alike
step-unchanged m gate from bytes now h is =
    let at = at_moment now m in
    ap (λ (n : Machine). shown (noted (held_in m) (settled n))) is
    ∙ ap (λ (n : Machine). shown (noted (held_in m) n)) (settled-same at h.peers)
    ∙ ap shown (noted-same m at refl)
    ∙ shown-same at h.shown

pub step-passed : (m : Machine) (gate : Gate) (from : Endpoint) (bytes : List ℕ) (now : ℤ) → IsMachine m → IsPassedOver m (reading_of bytes)
    → step_of m (Rx gate from bytes now) ≡ at_moment now m
step-passed m gate from bytes now h passed = step-unchanged m gate from bytes now h (arrived-passed gate from (reading_of bytes) m now passed)

pub sends-passed : (m : Machine) (gate : Gate) (from : Endpoint) (bytes : List ℕ) (now : ℤ) → IsPassedOver m (reading_of bytes)
    → sends_of m (Rx gate from bytes now) ≡ []
unfolding sends_of
sends-passed m gate from bytes now passed =
    append-nil (answers_to gate from (reading_of bytes) (at_moment now m)) ∙ answers-passed gate from (reading_of bytes) m now passed

pub step-pinged : (m : Machine) (gate : Gate) (from : Endpoint) (bytes payload : List ℕ) (now : ℤ) → IsMachine m → reading_of bytes ≡ Ok (message.Ping payload)
    → step_of m (Rx gate from bytes now) ≡ at_moment now m
step-pinged m gate from bytes payload now h is =
    step-unchanged m gate from bytes now h (ap (λ read. arrived gate from read (at_moment now m)) is)

-- ---- what is due later

-- the earliest of several bounds each
earliest-bounds : (now at : ℤ) (others : List (Option ℤ)) → now <ℤ earliest_of at others → (now <ℤ at) × AllByRecursion (IsAfter now) others
earliest-bounds now at [] lt = (lt, tt)
earliest-bounds now at (None ∷ others) lt = let more = earliest-bounds now at others lt in (more.0, (tt, more.1))
earliest-bounds now at (Some other ∷ others) lt =
    let more = earliest-bounds now (int_min at other) others lt in
    (first now at other more.0, (second now at other more.0, more.1))
  where
    first : (a b c : ℤ) → a <ℤ int_min b c → a <ℤ b
    first a b c lt = omega (arith, ints, clamps)

    second : (a b c : ℤ) → a <ℤ int_min b c → a <ℤ c
    second a b c lt = omega (arith, ints, clamps)

-- nothing is due by the moment
record IsLater (now : ℤ) (m : Machine) : Type 0 where
  broadcast : now <ℤ broadcast_due m.last_broadcast m.changed m.moment
  limits : IsAfter now (least_limit_of m.life)
  deadline : IsAfter now (option_map deadline_of m.measuring)
  anew : IsAfter now m.remeasure_at
  waiting : IsAfter now (waiting_due m.measuring m.waiting m.moment)

later-from : (now : ℤ) (m : Machine) → now <ℤ due_of m → IsLater now m
unfolding due_of
later-from now m lt =
    let each = earliest-bounds now (broadcast_due m.last_broadcast m.changed m.moment)
    (least_limit_of m.life ∷ option_map deadline_of m.measuring ∷ m.remeasure_at ∷ waiting_due m.measuring m.waiting m.moment ∷ []) lt in
    record { broadcast = each.0; limits = each.1.0; deadline = each.1.1.0; anew = each.1.1.1.0; waiting = each.1.1.1.1.0 }

less : (a b : ℤ) → a <ℤ b → int_lt a b ≡ true
less a b lt = grind (arith, ints, nat_tests)

greater : (a b : ℤ) → b <ℤ a → int_le a b ≡ false
greater a b lt = grind (arith, ints, nat_tests)

-- ---- no row ends

least-first : (now x : ℤ) (o : Option ℤ) → IsAfter now (Some (option_map_or (int_min x) o x)) → now <ℤ x
least-first now x None lt = lt
least-first now x (Some y) lt = let both : now <ℤ int_min x y = lt in omega (arith, ints, clamps)

least-rest : (now x : ℤ) (o : Option ℤ) → IsAfter now (Some (option_map_or (int_min x) o x)) → IsAfter now o
least-rest now x None lt = tt
least-rest now x (Some y) lt = let both : now <ℤ int_min x y = lt in let second : now <ℤ y = omega (arith, ints, clamps) in second

all-live : (now : ℤ) (rows : List PeerRow) → IsAfter now (least_in (map (λ (row : PeerRow). row.limit) rows)) → filter (lives now) rows ≡ rows
all-live now [] later = refl
all-live now (row ∷ rows) later =
    let limits : List ℤ = map (λ (row : PeerRow). row.limit) rows in
    let first = less now row.limit (least-first now row.limit (least_in limits) later) in
    rw first (ap (λ (list : List PeerRow). row ∷ list) (all-live now rows (least-rest now row.limit (least_in limits) later)))

rows-live : (now : ℤ) (life : List Happening) → IsAfter now (least_limit_of life) → rows_of (was_pruned now life) ≡ rows_of life
unfolding least_limit_of
rows-live now life later =
    rows_more life (pruning now) ∙ append-nil (filter (lives now) (rows_of life)) ∙ all-live now (rows_of life) later

peers-live : (session : NodeId) (now : ℤ) (life : List Happening) → IsAfter now (least_limit_of life) → peers_in session (was_pruned now life) ≡ peers_in session life
unfolding peers_in
peers-live session now life later = rw (rows-live now life later) refl

-- ---- the measurement that runs gets no answer, and none begins

early : (life : Life) (now : ℤ) → now <ℤ deadline_of life → is_early life now ≡ true
early life now lt = ap (λ b. is_over life || b) (less now (deadline_of life) lt) ∙ either (is_over life)
  where
    either : (b : Bool) → (b || true) ≡ true
    either true = refl
    either false = refl

tick_by-early : (o : Option Life) (m : Machine) → m.measuring ≡ o → IsAfter m.moment (option_map deadline_of o) → tick_by o m ≡ m
tick_by-early None m is later = refl
tick_by-early (Some life) m is later =
    let e = tick-early life m.moment (early life m.moment later) in
    ap (λ outcome. judged outcome life.session (record m { measuring = Some (tick_after life m.moment) })) e.0
    ∙ ap (λ (next : Life). let n : Machine = record m { measuring = Some next } in n) e.1
    ∙ ap (λ (o : Option Life). let n : Machine = record m { measuring = o } in n) (sym is)

pings_by-early : (o : Option Life) (now : ℤ) → IsAfter now (option_map deadline_of o) → pings_by_tick o now ≡ []
pings_by-early None now later = refl
pings_by-early (Some life) now later = ap (λ outcome. pings_of outcome life.target) (tick-early life now (early life now later)).0

queued-later : (m : Machine) → IsAfter m.moment m.remeasure_at → remeasure_queued m ≡ m
unfolding remeasure_queued
queued-later m later = rw (not-due m.remeasure_at m.moment later) refl
  where
    not-due : (o : Option ℤ) (now : ℤ) → IsAfter now o → is_remeasured o now ≡ false
    not-due None now later = refl
    not-due (Some at) now later = greater at now later

-- nobody waits, or a measurement runs
abbrev IsBusy : Option Life → List NodeId → Type 0
IsBusy None [] = Unit {0}
IsBusy None (session ∷ rest) = ⊥
IsBusy (Some life) waiting = Unit {0}

busy-later : (o : Option Life) (waiting : List NodeId) (moment now : ℤ) → moment ≤ℤ now → IsAfter now (waiting_due o waiting moment) → IsBusy o waiting
busy-later None [] moment now le later = tt
busy-later None (session ∷ rest) moment now le later = let lt : now <ℤ moment = later in absurd (omega (arith, ints))
busy-later (Some life) waiting moment now le later = tt

begun-busy : (o : Option Life) (waiting : List NodeId) (m : Machine) → m.measuring ≡ o → IsBusy o waiting → begun_from waiting m ≡ m
unfolding begun_from
begun-busy o [] m is busy = refl
begun-busy None (session ∷ rest) m is busy = absurd busy
begun-busy (Some life) (session ∷ rest) m is busy =
    ap (λ o. if is_some o then m else begun_from rest (begun_one session (record m { waiting = rest }))) is

pings-busy : (o : Option Life) (waiting : List NodeId) (m : Machine) → m.measuring ≡ o → IsBusy o waiting → pings_from waiting m ≡ []
unfolding pings_from
pings-busy o [] m is busy = refl
pings-busy None (session ∷ rest) m is busy = absurd busy
pings-busy (Some life) (session ∷ rest) m is busy =
    ap
    (λ o. let sends : List SendingValue = if is_some o then []
    else pings_at (target_of session m.life) m.moment ++ pings_from rest (begun_one session (record m { waiting = rest })) in sends) is

-- ---- no broadcast is due

not-broadcast : (last : Option ℤ) (changed : Bool) (moment now : ℤ) → moment ≤ℤ now → now <ℤ broadcast_due last changed moment → is_due_after last changed now ≡ false
not-broadcast None changed moment now le lt = absurd (omega (arith, ints))
not-broadcast (Some last) true moment now le lt =
    let sooner : now <ℤ (last +ℤ pos 50_000) = lt in
    let later : now <ℤ (last +ℤ pos 250_000) = omega (arith, ints) in
    rw (greater (last +ℤ pos 250_000) now later, greater (last +ℤ pos 50_000) now sooner) refl
not-broadcast (Some last) false moment now le lt =
    let later : now <ℤ (last +ℤ pos 250_000) = lt in
    rw (greater (last +ℤ pos 250_000) now later) refl

broadcast-none : (m : Machine) → is_broadcast m ≡ false → broadcast_after m ≡ m
unfolding broadcast_after
broadcast-none m none = rw none refl

alives-none : (m : Machine) → is_broadcast m ≡ false → broadcast_in m ≡ []
unfolding broadcast_in
alives-none m none = rw none refl

-- ---- a tick before a tick has work

not-before : (a b : ℤ) → a ≤ℤ int_max a b
not-before a b = omega (arith, ints, clamps)

measurement-later : (m : Machine) (now : ℤ) → IsLater (int_max m.moment now) m → measurement_ticked (cleared (at_moment now m)) ≡ cleared (at_moment now m)
unfolding measurement_ticked cleared idle_forgotten pruned
measurement-later m now h = tick_by-early m.measuring (cleared (at_moment now m)) refl h.deadline

queue-later : (m : Machine) (now : ℤ) → IsLater (int_max m.moment now) m → remeasure_queued (measurement_ticked (cleared (at_moment now m))) ≡ cleared (at_moment now m)
unfolding cleared idle_forgotten pruned
queue-later m now h = ap remeasure_queued (measurement-later m now h) ∙ queued-later (cleared (at_moment now m)) h.anew

ticked-later : (m : Machine) (now : ℤ) → IsLater (int_max m.moment now) m → ticked (at_moment now m) ≡ cleared (at_moment now m)
unfolding ticked begun cleared idle_forgotten pruned
ticked-later m now h =
    let after = cleared (at_moment now m) in
    ap begun (queue-later m now h)
    ∙ begun-busy m.measuring m.waiting after refl (busy-later m.measuring m.waiting m.moment (int_max m.moment now) (not-before m.moment now) h.waiting)

pings-later : (m : Machine) (now : ℤ) → IsLater (int_max m.moment now) m → pings_of_tick (at_moment now m) ≡ []
unfolding pings_of_tick pings_after_tick pings_begun cleared idle_forgotten pruned
pings-later m now h =
    let after = cleared (at_moment now m) in
    ap (λ (sends : List SendingValue). sends ++ pings_begun (remeasure_queued (measurement_ticked after))) (pings_by-early m.measuring (int_max m.moment now) h.deadline)
    ∙ ap pings_begun (queue-later m now h)
    ∙ pings-busy m.measuring m.waiting after refl (busy-later m.measuring m.waiting m.moment (int_max m.moment now) (not-before m.moment now) h.waiting)

before-later : (m : Machine) (now : ℤ) → IsMachine m → IsLater (int_max m.moment now) m → before_broadcast (Tick now) m ≡ cleared (at_moment now m)
unfolding before_broadcast cleared idle_forgotten pruned
before-later m now sound h =
    let after = cleared (at_moment now m) in
    ap (λ (n : Machine). noted (held_in m) (settled n)) (ticked-later m now h)
    ∙ ap (λ (n : Machine). noted (held_in m) n) (settled-same after (sound.peers ∙ sym (peers-live (session_in m) (int_max m.moment now) m.life h.limits)))
    ∙ noted-same m after refl

cleared-silent : (m : Machine) (now : ℤ) → IsLater (int_max m.moment now) m → is_broadcast (cleared (at_moment now m)) ≡ false
unfolding cleared idle_forgotten pruned
cleared-silent m now h = not-broadcast m.last_broadcast m.changed m.moment (int_max m.moment now) (not-before m.moment now) h.broadcast

pub silent_before_due : (m : Machine) (now : ℤ) → IsMachine m → int_max m.moment now <ℤ due_of m → sends_of m (Tick now) ≡ []
unfolding sends_of
silent_before_due m now sound lt =
    let h = later-from (int_max m.moment now) m lt in
    ap (λ (sends : List SendingValue). sends ++ broadcast_in (before_broadcast (Tick now) m)) (pings-later m now h)
    ∙ ap broadcast_in (before-later m now sound h)
    ∙ alives-none (cleared (at_moment now m)) (cleared-silent m now h)

same-change : (m : Machine) → alike (state_in m) m.published ≡ true → change_in m ≡ Same
unfolding change_in
same-change m is = rw is refl

pub same_before_due : (m : Machine) (now : ℤ) → IsMachine m → int_max m.moment now <ℤ due_of m → change_of m (Tick now) ≡ Same
unfolding change_of before_shown alike cleared idle_forgotten pruned
same_before_due m now sound lt =
    let h = later-from (int_max m.moment now) m lt in
    let after = cleared (at_moment now m) in
    ap (λ (n : Machine). change_in (broadcast_after n)) (before-later m now sound h)
    ∙ ap change_in (broadcast-none after (cleared-silent m now h))
    ∙ same-change after sound.shown
