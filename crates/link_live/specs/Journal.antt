-- What the journal of a live run is: events in an order that a node can have taken them, and what was heard at each arrival.
use Rattle.std.specs.Prelude.{◌≡◌, ◌<◌, ◌⊎◌, ℕ, ℤ, ◌≤ℤ◌, ◌<ℤ◌, ◌+◌, int_le, Bool, true, false, List, [], ◌∷◌, ◌++◌}
use Rattle.std.specs.Int.{int_max}
use Rattle.std.specs.List.{AllByRecursion}
use Rattle.lk_outside.specs.Arrivals.{ArrivalValue, Came, Waited, arrived_at}
use Rattle.link_node.specs.Config.{ConfigValue}
use Rattle.link_node.specs.Due.{due_of}
use Rattle.link_node.specs.Event.{EventValue, Rx, Tick, App, Audio, End, moment_of}
use Rattle.link_node.specs.Machine.{Machine}
use Rattle.link_node.specs.Opening.{opened}
use Rattle.link_node.specs.Runs.{machine_after}
use Rattle.link_node.specs.Step.{step_of}

-- ---- what stands in it

-- the datagrams, in order
abbrev pub datagram_events_in : List EventValue → List EventValue
datagram_events_in [] = []
datagram_events_in (Rx gate from bytes now ∷ es) = Rx gate from bytes now ∷ datagram_events_in es
datagram_events_in (Tick now ∷ es) = datagram_events_in es
datagram_events_in (App commit now ∷ es) = datagram_events_in es
datagram_events_in (Audio number commit now ∷ es) = datagram_events_in es
datagram_events_in (End now ∷ es) = datagram_events_in es

-- how many ticks there are
abbrev pub ticks_in : List EventValue → ℕ
ticks_in [] = 0
ticks_in (Rx gate from bytes now ∷ es) = ticks_in es
ticks_in (Tick now ∷ es) = 1 + ticks_in es
ticks_in (App commit now ∷ es) = ticks_in es
ticks_in (Audio number commit now ∷ es) = ticks_in es
ticks_in (End now ∷ es) = ticks_in es

-- whether it has ended
abbrev pub has_ended : List EventValue → Bool
has_ended [] = false
has_ended (Rx gate from bytes now ∷ es) = has_ended es
has_ended (Tick now ∷ es) = has_ended es
has_ended (App commit now ∷ es) = has_ended es
has_ended (Audio number commit now ∷ es) = has_ended es
has_ended (End now ∷ es) = true

-- ---- its order

-- Rule: Of the ticks and datagrams in the journal the first is a tick, and behind a datagram at whose end a tick is due the next is a tick.
-- Whether the next datagram or tick has to be a tick: so it is at the opening, and after a datagram at whose end a tick is due. `owed`
-- is that before the events.
unfoldable pub owes_tick : Bool → Machine → List EventValue → Bool
owes_tick owed m [] = owed
owes_tick owed m (Rx gate from bytes now ∷ es) = owes_tick (int_le (due_of (step_of m (Rx gate from bytes now))) now) (step_of m (Rx gate from bytes now)) es
owes_tick owed m (Tick now ∷ es) = owes_tick false (step_of m (Tick now)) es
owes_tick owed m (App commit now ∷ es) = owes_tick owed (step_of m (App commit now)) es
owes_tick owed m (Audio number commit now ∷ es) = owes_tick owed (step_of m (Audio number commit now)) es
owes_tick owed m (End now ∷ es) = owes_tick owed (step_of m (End now)) es

-- a datagram only where no tick has to come first, a tick only where one is due, audio commits by rising number
abbrev pub MayFollowKind : Machine → List EventValue → EventValue → Type 0
MayFollowKind opening before (Rx gate from bytes now) = owes_tick true opening before ≡ false
MayFollowKind opening before (Tick now) = due_of (machine_after opening before) ≤ℤ now
MayFollowKind opening before (App commit now) = Unit {0}
MayFollowKind opening before (Audio number commit now) = (machine_after opening before).audio < number
MayFollowKind opening before (End now) = Unit {0}

-- what may come after these events of a node so opened: nothing that is past, and nothing after the end
pub record MayFollow (opening : Machine) (before : List EventValue) (e : EventValue) : Type 0 where
  pub moment : (machine_after opening before).moment ≤ℤ moment_of e
  pub goes_on : has_ended before ≡ false
  pub kind : MayFollowKind opening before e

-- each event may follow those before it
abbrev pub AreInOrder : Machine → List EventValue → List EventValue → Type 0
AreInOrder opening before [] = Unit {0}
AreInOrder opening before (e ∷ es) = MayFollow opening before e × AreInOrder opening (before ++ e ∷ []) es

-- ---- what was heard

-- the greatest of a moment and those of some arrivals
unfoldable pub clock_after : ℤ → List ArrivalValue → ℤ
clock_after clock [] = clock
clock_after clock (arrival ∷ arrivals) = clock_after (int_max clock (arrived_at arrival)) arrivals

-- the datagram of an arrival, taken at this moment
abbrev pub brought_by : ℤ → ArrivalValue → List EventValue
brought_by now (Came gate from bytes at) = Rx gate from bytes now ∷ []
brought_by now (Waited at) = []

abbrev pub AreAt : ℤ → List EventValue → Type 0
AreAt now es = AllByRecursion (λ e. moment_of e ≡ now) es

-- The events after the last arrival. Just its datagram is among them; it may be missing where an event found the journal full.
pub record IsLastSpan (full : Bool) (clock : ℤ) (brought es : List EventValue) : Type 0 where
  pub at : AreAt clock es
  pub datagrams : (datagram_events_in es ≡ brought) ⊎ ((full ≡ true) × (datagram_events_in es ≡ []))

-- Rule: Datagrams stand in the journal in the order in which they came, each at the greatest moment heard by then; with a full journal the
-- last that came may be missing.
-- The events fall into spans: one before the first arrival, and one after each. Those of a span carry the greatest moment so far, and
-- have just the datagram of its arrival among them; and at its end no tick is due at that moment.
abbrev pub AreHeard : Bool → Machine → ℤ → List EventValue → List ArrivalValue → List EventValue → Type 0
AreHeard full m clock brought [] es = IsLastSpan full clock brought es
AreHeard full m clock brought (arrival ∷ arrivals) es =
    (span : List EventValue) × (rest : List EventValue) × (es ≡ span ++ rest) × AreAt clock span
    × (datagram_events_in span ≡ brought) × (clock <ℤ due_of (machine_after m span))
    × AreHeard full (machine_after m span) (int_max clock (arrived_at arrival)) (brought_by (int_max clock (arrived_at arrival)) arrival) arrivals rest

-- the events of a node opened so were heard at these arrivals
abbrev pub IsHeard : Bool → ConfigValue → ℤ → List ArrivalValue → List EventValue → Type 0
IsHeard full config now arrivals es = AreHeard full (opened config now) now [] arrivals es
