-- Alives to all destinations.
use Rattle.std.specs.Prelude.{ℤ, pos, ◌+ℤ◌, int_le, Bool, true, false, ◌&&◌, ◌||◌, List, [], if◌then◌else◌, Option, Some, None}
use Rattle.link_node.specs.Event.{SendingValue}
use Rattle.link_node.specs.Machine.{Machine}
use Rattle.link_node.specs.Telling.{alives_in}

-- Rule: A broadcast is due at first, 250,000 microseconds after the last, and 50,000 after it where there is news to tell.
abbrev pub is_due_after : Option ℤ → Bool → ℤ → Bool
is_due_after None changed now = true
is_due_after (Some last) changed now = int_le (last +ℤ pos 250_000) now || (changed && int_le (last +ℤ pos 50_000) now)

abbrev pub is_broadcast : Machine → Bool
is_broadcast m = is_due_after m.last_broadcast m.changed m.moment

unfoldable pub broadcast_after : Machine → Machine
broadcast_after m = if is_broadcast m then record m { last_broadcast = Some m.moment; changed = false } else m

unfoldable pub broadcast_in : Machine → List SendingValue
broadcast_in m = if is_broadcast m then alives_in m else []
