-- From a client's start to a session's and back, and which start counts.
use Rattle.std.specs.Prelude.{ℤ, int_le, Bool, List, ◌∷◌, unwrap_or}
use Rattle.std.specs.List.{find, list_all}
use Rattle.ghost_xform.specs.GhostTime.{ghost_of, host_of}
use Rattle.lk_base.specs.declared.start.ClientStart.{ClientStart}
use Rattle.lk_base.specs.declared.start.SessionStart.{SessionStart}
use Rattle.lk_base.specs.declared.timeline.Timeline.{Timeline}
use Rattle.timeline_math.specs.Beats.{beat_at, time_at}

-- Rule: A client's start becomes the session's beat at its time, stamped in ghost time.
unfoldable pub start_to_session_of : ClientStart → Timeline → ℤ → SessionStart
start_to_session_of start session offset =
    record { playing = start.playing; beats = beat_at session (ghost_of offset start.time); stamp = ghost_of offset start.stamp }

-- Rule: A session's start becomes the client's at the time of its beat, stamped in host time.
unfoldable pub start_to_client_of : SessionStart → Timeline → ℤ → ClientStart
start_to_client_of start session offset =
    record { playing = start.playing; time = host_of offset (time_at session start.beats); stamp = host_of offset start.stamp }

-- no stamp in the list is greater
abbrev pub is_latest_in : List SessionStart → SessionStart → Bool
is_latest_in list start = list_all (λ other. int_le other.stamp start.stamp) list

-- Rule: Of several starts the one of greatest stamp counts, of equal stamps the first.
unfoldable pub latest_start_of : SessionStart → List SessionStart → SessionStart
latest_start_of first later = unwrap_or (find (is_latest_in (first ∷ later)) (first ∷ later)) first
