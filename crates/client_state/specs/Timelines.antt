-- From a session's timeline to a client's and back.
use Rattle.std.specs.Prelude.{◌≡◌, ℤ, pos, ◌^◌, ◌+ℤ◌, Bool, ◌&&◌, if◌then◌else◌, Option, Some, None}
use Rattle.std.specs.Int.{int_max}
use Rattle.std.specs.Ordering.{int_eq}
use Rattle.ghost_xform.specs.GhostTime.{ghost_of, host_of}
use Rattle.lk_base.specs.Ranges.{IsWithin}
use Rattle.lk_base.specs.declared.timeline.Timeline.{Timeline}
use Rattle.timeline_math.specs.Beats.{beat_at, time_at}
use Rattle.timeline_math.specs.Clicks.{IsInReach}
use Rattle.client_state.specs.Edits.{timeline_at}

-- the host time of the session's beat 0
unfoldable pub zero_time_of : Timeline → ℤ → ℤ
zero_time_of session offset = host_of offset (time_at session (pos 0))

-- the session's tempo, through the client's beat now
abbrev pub going_on : Timeline → Timeline → ℤ → Timeline
going_on client session now = timeline_at session.mpb (beat_at client now) now

-- Rule: A client's timeline has the session's tempo, goes on from its beat now, and has its time origin at the session's beat 0.
-- the same line, with its origins at the session's beat 0
unfoldable pub client_from_session_of : Timeline → Timeline → ℤ → ℤ → Timeline
client_from_session_of client session now offset =
    let zero = zero_time_of session offset in
    timeline_at session.mpb (beat_at (going_on client session now) zero) zero

-- the client has the session's tempo, and its time origin is the host time of the session's beat 0
pub record Follows (session client : Timeline) (offset : ℤ) : Type 0 where
  pub tempo : client.mpb ≡ session.mpb
  pub time : client.time ≡ zero_time_of session offset

-- Nothing is clipped on the way from the session's clicks to the client's at this host time: 2^58 microseconds are 9,000 years, and
-- `IsInReach` tells of the beats.
pub record IsInReachOf (session client : Timeline) (offset time : ℤ) : Type 0 where
  pub offset_within : IsWithin (2 ^ 58) offset
  pub zero_within : IsWithin (2 ^ 58) (time_at session (pos 0))
  pub beats : IsInReach client time

-- neither beat 0 nor the tempo changes
abbrev pub KeepsBeat : Timeline → Timeline → ℤ → Type 0
KeepsBeat session client offset =
    (session.mpb ≡ client.mpb) × (beat_at session (ghost_of offset client.time) ≡ pos 0)

-- the same as a test
unfoldable pub keeps_beat : Timeline → Timeline → ℤ → Bool
keeps_beat session client offset =
    int_eq session.mpb client.mpb && int_eq (beat_at session (ghost_of offset client.time)) (pos 0)

-- the session's beat at the time of the edit, or one more than its origin where that is greater
unfoldable pub new_origin_of : Timeline → ℤ → ℤ → ℤ
new_origin_of session at offset = int_max (beat_at session (ghost_of offset at)) (session.beat +ℤ pos 1)

-- Rule: A client's change gives the session its tempo, and a beat origin that is greater than the session's before.
-- the client's tempo, with beat 0 at the client's time origin, through the new beat origin
unfoldable pub renewed_of : Timeline → Timeline → ℤ → ℤ → Timeline
renewed_of session client at offset =
    let origin = new_origin_of session at offset in
    timeline_at client.mpb origin (time_at (timeline_at client.mpb (pos 0) (ghost_of offset client.time)) origin)

-- Rule: A client's change is refused (`OriginSpent`) where the session's beat origin is 2^60 already, unless it changes nothing.
unfoldable pub session_from_client_of : Timeline → Timeline → ℤ → ℤ → Option Timeline
session_from_client_of session client at offset =
    if keeps_beat session client offset then Some session
    else if int_eq session.beat (pos (2 ^ 60)) then None
    else Some (renewed_of session client at offset)
