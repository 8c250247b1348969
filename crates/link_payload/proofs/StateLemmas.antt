-- Timelines, starts and endpoints, part by part.
use Rattle.std.proofs.Common.{ℕ, ℤ, Bool, w64}
use Rattle.std.specs.Int.{cast_signed, cast_unsigned}
use Rattle.lk_base.specs.declared.endpoint.Endpoint.{Endpoint}
use Rattle.lk_base.specs.declared.start.SessionStart.{SessionStart}
use Rattle.lk_base.specs.declared.timeline.Timeline.{Timeline}

-- a number as code stores it
abbrev pub stored : ℤ → ℤ
stored z = cast_signed w64 (cast_unsigned w64 z)

abbrev pub timeline_with : ℤ → ℤ → ℤ → Timeline
timeline_with mpb beat time = record { mpb = mpb; beat = beat; time = time }

abbrev pub start_with : Bool → ℤ → ℤ → SessionStart
start_with playing beats stamp = record { playing = playing; beats = beats; stamp = stamp }

abbrev pub endpoint_with : ℕ → ℕ → Endpoint
endpoint_with addr port = record { addr = addr; port = port }
