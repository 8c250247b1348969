-- What a port over UDP sockets makes of the system's addresses and errors, and of its own fields.
use Rattle.std.specs.Prelude.{◌≡◌, ℕ, ℤ, pos, ◌+◌, ◌^◌, ◌≤ℤ◌, Bool, false, if◌then◌else◌, List, [], ◌∷◌, length, map, take, Option, Some, None, Ok, Err}
use Rattle.std.specs.IoError.{raw_os_error}
use Rattle.std.specs.declared.io.Error.{Error}
use Rattle.std.specs.declared.result.Result.{Result}
use Rattle.lk_outside.specs.declared.port.Posted.{Posted}
use Rattle.lk_outside.specs.declared.port.Posted.TheVariants as posted
use Rattle.std.specs.Int.{int_min}
use Rattle.std.specs.List.{list_any}
use Rattle.std.specs.Ordering.{int_eq}
use Rattle.std.specs.Net.Addr.{ipv4_bits}
use Rattle.std.specs.Net.Socket.{v4_ip, v4_port}
use Rattle.std.specs.declared.net.socket_addr.SocketAddr.{SocketAddr}
use Rattle.std.specs.declared.net.socket_addr.SocketAddr.TheVariants as socket
use Rattle.lk_base.specs.declared.endpoint.Endpoint.{Endpoint}
use Rattle.lk_outside.specs.declared.port.Arrival.{Arrival}
use Rattle.lk_outside.specs.declared.port.Arrival.TheVariants as arrival
use Rattle.link_adapters.specs.declared.udp_port.gates.GateSocket.{GateSocket}
use Rattle.link_adapters.specs.declared.udp_port.refusal.Taken.{Taken}
use Rattle.link_adapters.specs.declared.udp_port.refusal.Taken.TheVariants as taken

-- ---- addresses

-- the endpoint of an address, if it is one of IPv4
abbrev pub endpoint_at : SocketAddr → Option Endpoint
endpoint_at (socket.V4 address) = Some (record { addr = ipv4_bits (v4_ip address); port = v4_port address })
endpoint_at (socket.V6 address) = None

-- ---- errors, by their numbers

-- there is a number, and it is one of these
abbrev pub is_among : List ℤ → Option ℤ → Bool
is_among codes None = false
is_among codes (Some code) = list_any (int_eq code) codes

-- the socket is gone (9), or is none (88): no later call of it comes to anything
abbrev pub codes_of_gone : List ℤ
codes_of_gone = pos 9 ∷ pos 88 ∷ []

-- an interrupted call (4), and what became of a datagram that was sent before
abbrev pub codes_of_before : List ℤ
codes_of_before = pos 4 ∷ pos 101 ∷ pos 104 ∷ pos 111 ∷ pos 113 ∷ []

-- Rule: A send fails only where the socket is gone; at any other error that datagram is dropped.
-- What a send made of a datagram. The system refuses it alone for any reason but that the socket is gone: no permission, no room, no way
-- there from here, a filter, a key that is wanting, or any other.
abbrev pub posted_at : Result ℕ Error → Posted
posted_at (Ok count) = posted.Sent
posted_at (Err error) = if is_among codes_of_gone (raw_os_error error) then posted.Failed else posted.Dropped

-- Rule: A datagram that is received is told with its sender and its length, and passed over where its sender has no IPv4 address.
abbrev pub taken_from : ℕ → Option Endpoint → Taken
taken_from count (Some from) = taken.Datagram from count
taken_from count None = taken.Passed

-- Rule: A receive passes over interruptions and errors of earlier sends, fails where the socket is gone, and takes nothing at any other
-- error until it is asked again.
-- what is taken of what a receive gave: an error of something before is passed over, and at any other that leaves the socket there is
-- nothing until it is asked again
abbrev pub IsTakenAt : Result (ℕ × SocketAddr) Error → Result Taken Error → Type 0
IsTakenAt (Ok got) answer = answer ≡ Ok (taken_from got.0 (endpoint_at got.1))
IsTakenAt (Err error) answer =
    answer ≡ (if is_among codes_of_gone (raw_os_error error) then Err error
    else (if is_among codes_of_before (raw_os_error error) then Ok taken.Passed else Ok taken.Nothing))

-- what comes of a wait: an error ends it early, and is one only where what was waited for is gone
abbrev pub waited_at : Result (Unit {0}) Error → Result (Unit {0}) Error
waited_at (Ok done) = Ok done
waited_at (Err error) = if is_among codes_of_gone (raw_os_error error) then Err error else Ok tt

-- ---- gates

-- the local endpoints of some gates
abbrev pub locals_of : List GateSocket → List Endpoint
locals_of gates = map (λ gate. gate.local) gates

-- Rule: A port over sockets that answers that it is idle has waited until the time asked for, or until 2^55 where that time is later; it
-- never closes.
abbrev pub IsFromTime : ℤ → Arrival → Type 0
IsFromTime until (arrival.Datagram gate from bytes now) = Unit {0}
IsFromTime until (arrival.Idle now) = int_min until (pos (2 ^ 55)) ≤ℤ now
IsFromTime until arrival.Closed = ⊥
IsFromTime until arrival.Failed = Unit {0}

-- the gate that answered is asked last the next time: the one behind it is the first
abbrev pub IsTurnAfter : ℕ → ℕ → Arrival → Type 0
IsTurnAfter before after (arrival.Datagram gate from bytes now) = after ≡ gate.0 + 1
IsTurnAfter before after (arrival.Idle now) = after ≡ before
IsTurnAfter before after arrival.Closed = after ≡ before
IsTurnAfter before after arrival.Failed = after ≡ before

-- Rule: A datagram is read with at most 513 bytes, so that a longer one is known as too long.
-- the bytes that came are the first ones of the buffer
abbrev pub IsInBuffer : List ℕ → Arrival → Type 0
IsInBuffer buffer (arrival.Datagram gate from bytes now) = take (length bytes.items) buffer ≡ bytes.items
IsInBuffer buffer (arrival.Idle now) = Unit {0}
IsInBuffer buffer arrival.Closed = Unit {0}
IsInBuffer buffer arrival.Failed = Unit {0}
