-- What callers see of a source in memory.
use Rattle.std.specs.Prelude.{◌≡◌, ℕ, ◌+◌, ◌-◌, ◌^◌, min, List, [], drop, Some}
use Rattle.lk_outside.specs.Stream.{Stream}
use Rattle.lk_outside.specs.declared.bytes_source.BytesSource.{BytesSource}

-- the bytes left
abbrev pub rest_of : BytesSource → List ℕ
rest_of source = drop source.given source.bytes.items

-- the most bytes that a read gives
abbrev pub most_of : BytesSource → ℕ
most_of source = source.most

-- the list of failing calls
abbrev pub failing_of : BytesSource → List (ℕ × ℕ)
failing_of source = source.failing.items

-- how many reads were made, up to the last value of the count's type
abbrev pub reads_of : BytesSource → ℕ
reads_of source = source.reads

-- the number of the next read
abbrev pub next_read_of : BytesSource → ℕ
next_read_of source = min (reads_of source + 1) (2 ^ 64 - 1)

-- how many reads failed, up to the last value of the count's type
abbrev pub faults_of : BytesSource → ℕ
faults_of source = source.faults

-- what is seen of it, as of a source that always tells
abbrev pub seen_of : BytesSource → Stream
seen_of source = record { told = Some (rest_of source); faults = faults_of source }

-- no read is to fail
abbrev pub IsQuietSource : BytesSource → Type 0
IsQuietSource source = failing_of source ≡ []
