-- What the answers of the adapters say of the clock, the reader and the writer behind them. The standard library tells of a reader's and a
-- writer's bytes where they are known.
use Rattle.std.specs.Prelude.{◌≡◌, ℕ, zero, suc, ℤ, pos, ◌+ℤ◌, ◌≤ℤ◌, ◌<ℤ◌, ◌^◌, ◌-◌, ◌/◌, min, List, [], ◌∷◌, ◌++◌, take, codes, if◌then◌else◌, Option, None, Some, Ok, Err, IsSome}
use Rattle.std.specs.Fmt.{signed_decimal}
use Rattle.std.specs.List.{flat_map}
use Rattle.std.specs.Io.KnownBytes.{Appends, Consumes, IsAtEnd, Keeps}
use Rattle.std.specs.Time.{instant_nanos}
use Rattle.std.specs.declared.io.Error.{Error}
use Rattle.std.specs.declared.result.Result.{Result}
use Rattle.std.specs.declared.time.Instant.{Instant}
use Rattle.lk_base.specs.Ranges.{IsMoment}
use Rattle.lk_base.specs.declared.block.Click.{Click}
use Rattle.lk_outside.specs.declared.audio.Next.{Next}
use Rattle.lk_outside.specs.declared.audio.Next.TheVariants as next
use Rattle.lk_outside.specs.declared.audio.Played.{Played}
use Rattle.lk_outside.specs.declared.audio.Played.TheVariants as played
use Rattle.lk_outside.specs.declared.sink.Put.{Put}
use Rattle.lk_outside.specs.declared.sink.Put.TheVariants as put
use Rattle.lk_outside.specs.declared.source.Taken.{Taken}
use Rattle.lk_outside.specs.declared.source.Taken.TheVariants as taken

-- ---- the streams

-- Rule: A read of nothing is the end of a stream, and an error of a read is a failure.
abbrev pub got_at : Result ℕ Error → Taken
got_at (Ok zero) = taken.End
got_at (Ok (suc n)) = taken.Got (suc n)
got_at (Err error) = taken.Failed

-- Rule: A write of nothing is a failure of a stream, and so is an error of a write.
abbrev pub put_at : Result ℕ Error → Put
put_at (Ok zero) = put.Failed
put_at (Ok (suc n)) = put.Took (suc n)
put_at (Err error) = put.Failed

-- The bytes got are those that the reader had next, in order. At the end nothing was left. A failure takes nothing.
abbrev pub IsReadFrom : Option (List ℕ) → Option (List ℕ) → List ℕ → Taken → Type 0
IsReadFrom before after buf (taken.Got n) = Consumes before after (take n buf)
IsReadFrom before after buf taken.End = IsAtEnd before × Keeps before after
IsReadFrom before after buf taken.Failed = Keeps before after

-- The writer grew by exactly the bytes that were taken. A failure appends nothing.
abbrev pub IsWrittenTo : Option (List ℕ) → Option (List ℕ) → List ℕ → Put → Type 0
IsWrittenTo before after bytes (put.Took n) = Appends before after (take n bytes)
IsWrittenTo before after bytes put.Failed = Keeps before after

-- the error of a read that failed is kept, till another fails
abbrev pub KeepsReadError : Option Error → Option Error → Taken → Type 0
KeepsReadError before after (taken.Got n) = after ≡ before
KeepsReadError before after taken.End = after ≡ before
KeepsReadError before after taken.Failed = IsSome after

-- and so is that of a write
abbrev pub KeepsWriteError : Option Error → Option Error → Put → Type 0
KeepsWriteError before after (put.Took n) = after ≡ before
KeepsWriteError before after put.Failed = IsSome after

-- What is known of the bytes of a client's stream. Of one that isn't there nothing is.
abbrev pub known_of : {S : Type 0} → (S → Option (List ℕ)) → Option S → Option (List ℕ)
known_of known None = None
known_of known (Some stream) = known stream

-- ---- the clock

-- Rule: A moment of the host's clock is the whole microseconds from its start, and at most 2^55.
abbrev pub moment_at : Instant → Instant → ℤ
moment_at start now = pos (min ((instant_nanos now - instant_nanos start) / 1_000) (2 ^ 55))

-- a moment, and not before that one
abbrev pub IsMomentFrom : ℤ → ℤ → Type 0
IsMomentFrom moment now = IsMoment now × (moment ≤ℤ now)

-- ---- the click

-- Rule: A click is written as a line `click`, its moment, and `accent` or `plain`.
unfoldable pub click_line_of : Click → List ℕ
click_line_of click = codes "click " ++ signed_decimal click.at ++ (if click.accent then codes " accent" else codes " plain") ++ 10 ∷ []

-- Rule: Each click of a block is told by a line, in order.
abbrev pub click_lines_of : List Click → List ℕ
click_lines_of clicks = flat_map click_line_of clicks

-- Rule: The audio blocks of a live run have 20 milliseconds and follow on each other.
-- A block begins where the last one ended and has 20 milliseconds. None is left only where the next one would end after the last moment.
abbrev pub IsInTurn : ℤ → ℤ → Next → Type 0
IsInTurn before after (next.Block block) = (block.start ≡ before) × (block.length ≡ pos 20_000) × (after ≡ (before +ℤ pos 20_000))
IsInTurn before after next.Closed = (after ≡ before) × (pos (2 ^ 55) <ℤ (before +ℤ pos 20_000))
IsInTurn before after next.Failed = after ≡ before

-- The writer grew by exactly the lines of the clicks. Of a failure nothing is told.
abbrev pub IsPlayedTo : Option (List ℕ) → Option (List ℕ) → List Click → Played → Type 0
IsPlayedTo before after clicks played.Done = Appends before after (click_lines_of clicks)
IsPlayedTo before after clicks played.Failed = Unit {0}
