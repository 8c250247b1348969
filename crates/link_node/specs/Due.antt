-- The earliest moment at which a tick has work.
use Rattle.std.specs.Prelude.{ℤ, pos, ◌+ℤ◌, Bool, List, [], ◌∷◌, if◌then◌else◌, Option, Some, None, option_map}
use Rattle.std.specs.Int.{int_min}
use Rattle.peer_gateway.specs.Answers.{least_limit_of}
use Rattle.ping_measure.specs.Life.{Life, deadline_of}
use Rattle.lk_base.specs.declared.ids.NodeId.{NodeId}
use Rattle.link_node.specs.Machine.{Machine}

-- the next broadcast
abbrev pub broadcast_due : Option ℤ → Bool → ℤ → ℤ
broadcast_due None changed now = now
broadcast_due (Some last) changed now = last +ℤ (if changed then pos 50_000 else pos 250_000)

-- a session that waits can be measured at once, unless a measurement runs
abbrev pub waiting_due : Option Life → List NodeId → ℤ → Option ℤ
waiting_due (Some life) waiting now = None
waiting_due None [] now = None
waiting_due None (session ∷ rest) now = Some now

-- the lesser of the two, where there is a second
abbrev pub earlier_of : ℤ → Option ℤ → ℤ
earlier_of at None = at
earlier_of at (Some other) = int_min at other

-- the least of all that there are
abbrev pub earliest_of : ℤ → List (Option ℤ) → ℤ
earliest_of at [] = at
earliest_of at (other ∷ others) = earliest_of (earlier_of at other) others

-- Rule: A tick is due at the next broadcast, a row's limit, the measurement's deadline or the measuring anew, or now where a session waits
-- and none is measured.
unfoldable pub due_of : Machine → ℤ
due_of m =
    earliest_of
    (broadcast_due m.last_broadcast m.changed m.moment)
    (least_limit_of m.life ∷ option_map deadline_of m.measuring ∷ m.remeasure_at ∷ waiting_due m.measuring m.waiting m.moment ∷ [])
