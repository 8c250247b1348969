-- What callers see of a sink in memory.
use Rattle.std.specs.Prelude.{◌≡◌, ℕ, ◌+◌, ◌-◌, ◌^◌, min, List, [], length, Some}
use Rattle.lk_outside.specs.Stream.{Stream}
use Rattle.lk_outside.specs.declared.bytes_sink.BytesSink.{BytesSink}

-- the bytes written
abbrev pub bytes_of : BytesSink → List ℕ
bytes_of sink = sink.bytes.items

-- how many bytes there is room for in all
abbrev pub room_of : BytesSink → ℕ
room_of sink = sink.room

-- how many more bytes there is room for
abbrev pub room_left_of : BytesSink → ℕ
room_left_of sink = room_of sink - length (bytes_of sink)

-- the most bytes that a write takes
abbrev pub most_of : BytesSink → ℕ
most_of sink = sink.most

-- the list of failing calls
abbrev pub failing_of : BytesSink → List (ℕ × ℕ)
failing_of sink = sink.failing.items

-- how many writes were made, up to the last value of the count's type
abbrev pub writes_of : BytesSink → ℕ
writes_of sink = sink.writes

-- the number of the next write
abbrev pub next_write_of : BytesSink → ℕ
next_write_of sink = min (writes_of sink + 1) (2 ^ 64 - 1)

-- how many writes failed, up to the last value of the count's type
abbrev pub faults_of : BytesSink → ℕ
faults_of sink = sink.faults

-- what is seen of it, as of a sink that always tells
abbrev pub seen_of : BytesSink → Stream
seen_of sink = record { told = Some (bytes_of sink); faults = faults_of sink }

-- no write is to fail while there is room
abbrev pub IsQuietSink : BytesSink → Type 0
IsQuietSink sink = failing_of sink ≡ []
