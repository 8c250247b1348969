-- What a port has met.
use Rattle.std.specs.Prelude.{ℕ, ℤ, ◌+◌, ◌-◌, ◌^◌, ◌+ℤ◌, min, nat_lt, int_lt, if◌then◌else◌, true, false, List, pos, replicate, slice_index, slice_set}
use Rattle.lk_base.specs.declared.endpoint.Gate.{Gate}
use Rattle.lk_outside.specs.declared.port.Arrival.{Arrival}
use Rattle.lk_outside.specs.declared.port.Arrival.TheVariants as arrival
use Rattle.lk_outside.specs.declared.port.Bound.{Bound}
use Rattle.lk_outside.specs.declared.port.Bound.TheVariants as bound
use Rattle.lk_outside.specs.declared.port.Posted.{Posted}
use Rattle.lk_outside.specs.declared.port.Posted.TheVariants as posted
use Rattle.serve_adapters.specs.declared.board.Sighting.{Sighting}

-- one more; a count stays at its type's last value
abbrev pub one_more : ℕ → ℕ
one_more count = min (count + 1) (2 ^ 64 - 1)

-- nothing was met
abbrev pub no_sighting : Sighting
no_sighting = record {
  bound = false;
  failed = false;
  received_at = pos 0;
  refused = replicate 4 0;
  datagrams = 0;
  ticks = 0;
}

abbrev pub sighting_after_bind : Bound → Sighting → Sighting
sighting_after_bind bound.Ready met = record met { bound = true }
sighting_after_bind bound.Failed met = record met { failed = true }

-- Rule: A receive that nothing came to, and that was to wait for less than 5 milliseconds, is counted: a tick of the node is due then.
abbrev pub sighting_after_receive : ℤ → Arrival → Sighting → Sighting
sighting_after_receive until (arrival.Datagram gate from bytes now) met =
    record met { received_at = now; datagrams = one_more met.datagrams }
sighting_after_receive until (arrival.Idle now) met =
    record met { received_at = now; ticks = if int_lt until (met.received_at +ℤ pos 5_000) then one_more met.ticks else met.ticks }
sighting_after_receive until arrival.Closed met = met
sighting_after_receive until arrival.Failed met = record met { failed = true }

-- one more at a place below 4
abbrev pub one_more_at : ℕ → List ℕ → List ℕ
one_more_at at counts = if nat_lt at 4 then slice_set counts at (one_more (slice_index counts at)) else counts

-- Rule: A datagram that the system refused is counted by its gate.
abbrev pub sighting_after_send : Gate → Posted → Sighting → Sighting
sighting_after_send gate posted.Sent met = met
sighting_after_send gate posted.Dropped met = record met { refused = one_more_at gate.0 met.refused }
sighting_after_send gate posted.Failed met = record met { failed = true }
