-- How the values of entries, and whole states, pings and pongs, are spelled.
use Rattle.std.specs.Prelude.{ℕ, ℤ, List, [], ◌∷◌, ◌++◌, Option, Some, None, if◌then◌else◌}
use Rattle.byteorder.specs.Endian.{big_bytes}
use Rattle.lk_base.specs.declared.endpoint.Endpoint.{Endpoint}
use Rattle.lk_base.specs.declared.ids.NodeId.{NodeId}
use Rattle.lk_base.specs.declared.start.SessionStart.{SessionStart}
use Rattle.lk_base.specs.declared.timeline.Timeline.{Timeline}
use Rattle.link_payload.specs.declared.fields.PeerFields.{PeerFields}
use Rattle.link_payload.specs.declared.fields.PingFields.{PingFields}
use Rattle.link_payload.specs.Entries.{spelled_number_of, spelled_entry_of}

-- the microseconds per beat, the beat origin, the time origin
unfoldable pub spelled_timeline_of : Timeline → List ℕ
spelled_timeline_of t = spelled_number_of t.mpb ++ spelled_number_of t.beat ++ spelled_number_of t.time

-- 1 where it plays and else 0, the beats, the stamp
unfoldable pub spelled_start_of : SessionStart → List ℕ
spelled_start_of s = (if s.playing then 1 else 0) ∷ (spelled_number_of s.beats ++ spelled_number_of s.stamp)

-- the address in four bytes, the port in two
unfoldable pub spelled_endpoint_of : Endpoint → List ℕ
spelled_endpoint_of e = big_bytes 4 e.addr ++ big_bytes 2 e.port

-- an entry `mep4` where there is an endpoint, and else nothing
unfoldable pub spelled_endpoint_entry_of : Option Endpoint → List ℕ
spelled_endpoint_entry_of None = []
spelled_endpoint_entry_of (Some e) = spelled_entry_of 0x6d657034 (spelled_endpoint_of e)

-- Rule: A state is written as `tmln`, `sess`, `stst` and, where there is an endpoint, `mep4`, in this order.
unfoldable pub spelled_state_of : PeerFields → List ℕ
spelled_state_of f =
    spelled_entry_of 0x746d6c6e (spelled_timeline_of f.timeline)
    ++ spelled_entry_of 0x73657373 f.session.0
    ++ spelled_entry_of 0x73747374 (spelled_start_of f.start)
    ++ spelled_endpoint_entry_of f.endpoint

-- an entry `_pgt` where there is a ghost time, and else nothing
unfoldable pub spelled_previous_entry_of : Option ℤ → List ℕ
spelled_previous_entry_of None = []
spelled_previous_entry_of (Some time) = spelled_entry_of 0x5f706774 (spelled_number_of time)

-- the entry `__ht`, and `_pgt` where there is a ghost time
unfoldable pub spelled_ping_of : PingFields → List ℕ
spelled_ping_of p = spelled_entry_of 0x5f5f6874 (spelled_number_of p.host) ++ spelled_previous_entry_of p.previous

-- the entries `sess` and `__gt`, and then the payload of the ping that is answered
unfoldable pub spelled_pong_of : NodeId → ℤ → List ℕ → List ℕ
spelled_pong_of session ghost_time echo =
    spelled_entry_of 0x73657373 session.0 ++ spelled_entry_of 0x5f5f6774 (spelled_number_of ghost_time) ++ echo
