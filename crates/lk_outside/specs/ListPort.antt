-- What callers see of a port in memory.
use Rattle.std.specs.Prelude.{◌≡◌, ℕ, ◌+◌, ◌-◌, ◌^◌, min, List, [], length, map, take, drop, Some}
use Rattle.lk_base.specs.declared.endpoint.Endpoint.{Endpoint}
use Rattle.lk_outside.specs.Arrivals.{PostValue}
use Rattle.lk_outside.specs.Coming.{arrivals_in}
use Rattle.lk_outside.specs.Port.{PortContents, PortSeen}
use Rattle.lk_outside.specs.declared.list_port.ListPort.{ListPort}
use Rattle.lk_outside.specs.declared.list_port.Post.{Post}
use Rattle.lk_outside.specs.declared.port.Arrival.{Arrival}

-- a datagram posted, as plain data
abbrev pub post_value : Post → PostValue
post_value post = record { gate = post.gate; to = post.to; bytes = post.bytes.items }

-- the arrivals left
abbrev pub rest_of : ListPort → List Arrival
rest_of port = drop port.taken port.arrivals.items

-- the arrivals given
abbrev pub given_of : ListPort → List Arrival
given_of port = take port.taken port.arrivals.items

-- the datagrams posted
abbrev pub posts_of : ListPort → List Post
posts_of port = port.posts.items

-- all three as plain data
abbrev pub contents_of : ListPort → PortContents
contents_of port = record {
  left = arrivals_in (rest_of port);
  given = arrivals_in (given_of port);
  posted = map post_value (posts_of port);
}

-- the local endpoints of the gates bound
abbrev pub bound_of : ListPort → List Endpoint
bound_of port = port.gates.items

-- how many datagrams there is room for in all
abbrev pub room_of : ListPort → ℕ
room_of port = port.room

-- how many more datagrams there is room for
abbrev pub room_left_of : ListPort → ℕ
room_left_of port = room_of port - length (contents_of port).posted

-- the list of failing calls
abbrev pub failing_of : ListPort → List (ℕ × ℕ)
failing_of port = port.failing.items

-- how many binds were made, up to the last value of the count's type
abbrev pub binds_of : ListPort → ℕ
binds_of port = port.binds

-- the number of the next bind
abbrev pub next_bind_of : ListPort → ℕ
next_bind_of port = min (binds_of port + 1) (2 ^ 64 - 1)

-- how many receives were made, up to the last value of the count's type
abbrev pub receives_of : ListPort → ℕ
receives_of port = port.receives

-- the number of the next receive
abbrev pub next_receive_of : ListPort → ℕ
next_receive_of port = min (receives_of port + 1) (2 ^ 64 - 1)

-- how many sends were made, up to the last value of the count's type
abbrev pub sends_of : ListPort → ℕ
sends_of port = port.sends

-- the number of the next send
abbrev pub next_send_of : ListPort → ℕ
next_send_of port = min (sends_of port + 1) (2 ^ 64 - 1)

-- how many calls failed, up to the last value of the count's type
abbrev pub faults_of : ListPort → ℕ
faults_of port = port.faults

-- what is seen of it, as of a port that always tells
abbrev pub seen_of : ListPort → PortSeen
seen_of port = record { told = Some (contents_of port); gates = bound_of port; faults = faults_of port }

-- no call is to fail but for another cause
abbrev pub IsQuietPort : ListPort → Type 0
IsQuietPort port = failing_of port ≡ []
