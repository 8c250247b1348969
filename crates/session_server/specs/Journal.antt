-- How full a journal is, and when that is told.
use Rattle.std.specs.Prelude.{◌≡◌, ◌<◌, ◌-◌, ◌*◌, ◌/◌, ℕ, pos, ◌+ℤ◌, ◌-ℤ◌, ◌≤ℤ◌, unsigned_abs, nat_le, if◌then◌else◌, Option, Some, None}
use Rattle.session_server.specs.declared.mark.Mark.{Mark}

-- Rule: How long a journal has left is reckoned by what the last two to four minutes took.
-- how many microseconds go by at this pace until a journal is full that takes so many events
abbrev pub left_by : Mark → Mark → ℕ → ℕ
left_by older now most = (most - now.events) * unsigned_abs (now.at -ℤ older.at) / (now.events - older.events)

-- Rule: It is told an hour, ten minutes and one minute before a journal is full.
-- the nearest of these that so many microseconds are within, in minutes
abbrev pub nearest_in : ℕ → Option ℕ
nearest_in left =
    if nat_le left 60_000_000 then Some 1 else (if nat_le left 600_000_000 then Some 10 else (if nat_le left 3_600_000_000 then Some 60 else None))

-- a journal will be full within so many minutes, by what it took since a mark half a minute ago or more
pub record IsNear (older now : Mark) (most minutes : ℕ) : Type 0 where
  pub some : older.events < now.events
  pub long : (older.at +ℤ pos 30_000_000) ≤ℤ now.at
  pub near : nearest_in (left_by older now most) ≡ Some minutes
