-- What callers see of a talk in memory.
use Rattle.std.specs.Prelude.{◌≡◌, ℕ, ◌+◌, ◌-◌, ◌^◌, min, List, [], length, drop, Option, Some}
use Rattle.lk_base.specs.declared.endpoint.Endpoint.{Endpoint}
use Rattle.lk_outside.specs.Talk.{TalkSeen}
use Rattle.lk_outside.specs.declared.list_talk.ListTalk.{ListTalk}

-- the client's bytes that are left
abbrev pub rest_of : ListTalk → List ℕ
rest_of talk = drop talk.given talk.bytes.items

-- the bytes written
abbrev pub bytes_of : ListTalk → List ℕ
bytes_of talk = talk.written.items

-- the endpoint that it was opened at last, if it was
abbrev pub opened_of : ListTalk → Option Endpoint
opened_of talk = talk.opened

-- the most bytes that a read gives
abbrev pub most_of : ListTalk → ℕ
most_of talk = talk.most

-- how many bytes there is room for in all
abbrev pub room_of : ListTalk → ℕ
room_of talk = talk.room

-- how many more bytes there is room for
abbrev pub room_left_of : ListTalk → ℕ
room_left_of talk = room_of talk - length (bytes_of talk)

-- the list of failing calls
abbrev pub failing_of : ListTalk → List (ℕ × ℕ)
failing_of talk = talk.failing.items

-- how often it was called to listen, up to the last value of the count's type
abbrev pub listens_of : ListTalk → ℕ
listens_of talk = talk.listens

-- the number of the next of those calls
abbrev pub next_listen_of : ListTalk → ℕ
next_listen_of talk = min (listens_of talk + 1) (2 ^ 64 - 1)

-- how many reads were made, up to the last value of the count's type
abbrev pub reads_of : ListTalk → ℕ
reads_of talk = talk.reads

-- the number of the next read
abbrev pub next_read_of : ListTalk → ℕ
next_read_of talk = min (reads_of talk + 1) (2 ^ 64 - 1)

-- how many writes were made, up to the last value of the count's type
abbrev pub writes_of : ListTalk → ℕ
writes_of talk = talk.writes

-- the number of the next write
abbrev pub next_write_of : ListTalk → ℕ
next_write_of talk = min (writes_of talk + 1) (2 ^ 64 - 1)

-- how many calls failed, up to the last value of the count's type
abbrev pub faults_of : ListTalk → ℕ
faults_of talk = talk.faults

-- what is seen of it, as of a talk that always tells
abbrev pub seen_of : ListTalk → TalkSeen
seen_of talk = record {
  left = Some (rest_of talk);
  written = Some (bytes_of talk);
  opened = opened_of talk;
  faults = faults_of talk;
}

-- no call is to fail while there is room
abbrev pub IsQuietTalk : ListTalk → Type 0
IsQuietTalk talk = failing_of talk ≡ []
