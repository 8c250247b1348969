-- Time alone: what is over ends, and what is due begins.
use Rattle.std.specs.Prelude.{ℤ, int_le, Bool, false, ◌||◌, List, [], ◌∷◌, ◌++◌, filter, is_some, if◌then◌else◌, Option, Some, None}
use Rattle.std.specs.List.{list_any}
use Rattle.lk_base.specs.IdOrder.{same_id}
use Rattle.lk_base.specs.declared.endpoint.Target.{Target}
use Rattle.lk_base.specs.declared.ids.NodeId.{NodeId}
use Rattle.peer_gateway.specs.Answers.{has_peers, target_of}
use Rattle.peer_gateway.specs.Happenings.{was_pruned}
use Rattle.ping_measure.specs.Life.{Life, opening}
use Rattle.session_choice.specs.History.{Taking}
use Rattle.link_node.specs.Event.{SendingValue}
use Rattle.link_node.specs.Machine.{Machine, session_in}
use Rattle.link_node.specs.Measuring.{unmeasured, measurement_ticked, pings_after_tick, ping_to}

-- rows at their limits end
unfoldable pub pruned : Machine → Machine
pruned m = record m { life = was_pruned m.moment m.life }

-- ---- sessions that nobody is in

abbrev pub is_measured : NodeId → Option Life → Bool
is_measured session None = false
is_measured session (Some life) = same_id life.session session

abbrev pub is_waiting : NodeId → List NodeId → Bool
is_waiting session waiting = list_any (λ id. same_id id session) waiting

-- Rule: A tick forgets each other session that has no peer, isn't measured and doesn't wait.
abbrev pub is_needed : Machine → Taking → Bool
is_needed m taking =
    has_peers taking.session m.life || (is_measured taking.session m.measuring || is_waiting taking.session m.waiting)

-- another session without a row, that isn't measured and doesn't wait, is forgotten
unfoldable pub idle_forgotten : Machine → Machine
idle_forgotten m = record m { sessions = record m.sessions { others = filter (is_needed m) m.sessions.others } }

-- ---- the current session is to be measured anew

abbrev pub is_remeasured : Option ℤ → ℤ → Bool
is_remeasured None now = false
is_remeasured (Some at) now = int_le at now

-- last in the list, unless it is there
abbrev pub waiting_with : NodeId → List NodeId → List NodeId
waiting_with session waiting = if is_waiting session waiting then waiting else waiting ++ session ∷ []

unfoldable pub remeasure_queued : Machine → Machine
remeasure_queued m =
    if is_remeasured m.remeasure_at m.moment
    then record m { remeasure_at = None; waiting = waiting_with (session_in m) m.waiting }
    else m

-- ---- the next measurement

-- by the target it begins, and without one the session can't be measured
abbrev pub begun_at : Option Target → NodeId → Machine → Machine
begun_at (Some target) session m = record m { measuring = Some (opening target session m.moment) }
begun_at None session m = unmeasured session m

unfoldable pub begun_one : NodeId → Machine → Machine
begun_one session m = begun_at (target_of session m.life) session m

abbrev pub pings_at : Option Target → ℤ → List SendingValue
pings_at (Some target) now = ping_to target (record { host = now; previous = None }) ∷ []
pings_at None now = []

-- the sessions that wait, in order, until one is measured
unfoldable pub begun_from : List NodeId → Machine → Machine
begun_from [] m = m
begun_from (session ∷ rest) m =
    if is_some m.measuring then m else begun_from rest (begun_one session (record m { waiting = rest }))

-- Rule: A tick begins the measurement of the first session that waits and has a target, where none runs.
unfoldable pub begun : Machine → Machine
begun m = begun_from m.waiting m

unfoldable pub pings_from : List NodeId → Machine → List SendingValue
pings_from [] m = []
pings_from (session ∷ rest) m =
    if is_some m.measuring then []
    else pings_at (target_of session m.life) m.moment ++ pings_from rest (begun_one session (record m { waiting = rest }))

unfoldable pub pings_begun : Machine → List SendingValue
pings_begun m = pings_from m.waiting m

-- ---- in this order

-- before the measurement that runs gets its tick
unfoldable pub cleared : Machine → Machine
cleared m = idle_forgotten (pruned m)

-- Rule: A tick ends rows, forgets idle sessions, ticks the measurement, queues the measuring anew and begins the next one, in this order.
unfoldable pub ticked : Machine → Machine
ticked m = begun (remeasure_queued (measurement_ticked (cleared m)))

unfoldable pub pings_of_tick : Machine → List SendingValue
pings_of_tick m = pings_after_tick (cleared m) ++ pings_begun (remeasure_queued (measurement_ticked (cleared m)))
