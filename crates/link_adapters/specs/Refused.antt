-- The datagrams that the system refused, counted by where they were to go.
use Rattle.std.specs.Prelude.{ℕ, ◌+◌, ◌-◌, ◌^◌, ◌&&◌, ◌==◌, min, nat_lt, Bool, if◌then◌else◌, List, [], ◌∷◌, ◌++◌, length, slice_set, slice_index_or, Option, Some, None}
use Rattle.std.specs.declared.io.Error.{Error}
use Rattle.lk_base.specs.declared.endpoint.Endpoint.{Endpoint}
use Rattle.link_adapters.specs.declared.udp_port.refused.Refused.{Refused}

abbrev pub same_endpoint : Endpoint → Endpoint → Bool
same_endpoint a b = (a.addr == b.addr) && (a.port == b.port)

-- one more; a count stays at its type's last value
abbrev pub one_more : ℕ → ℕ
one_more count = min (count + 1) (2 ^ 64 - 1)

abbrev pub first_of : Endpoint → Error → Refused
first_of to error = record { to = to; count = 1; last = error }

abbrev pub again_of : Error → Refused → Refused
again_of error row = record row { count = one_more row.count; last = error }

-- Rule: Datagrams that the system refused are counted by destination, with the last error, for the first 32 destinations.
-- The rows after one more to an endpoint, which has a row at that place, or none. There are at most 32.
abbrev pub rows_after : Option ℕ → List Refused → Endpoint → Error → List Refused
rows_after (Some place) rows to error = slice_set rows place (again_of error (slice_index_or rows place (first_of to error)))
rows_after None rows to error = if nat_lt (length rows) 32 then rows ++ first_of to error ∷ [] else rows

-- those for which there is no row
abbrev pub further_after : Option ℕ → List Refused → ℕ → ℕ
further_after (Some place) rows further = further
further_after None rows further = if nat_lt (length rows) 32 then further else one_more further
