-- What an honest pong is: each ghost time that it carries was read off a clock that is ahead of the host's by c, while
-- its ping, or the one before, was on its way.
use Rattle.std.specs.Prelude.{◌≡◌, ℤ, pos, ◌+ℤ◌, ◌-ℤ◌, ◌≤ℤ◌}
use Rattle.std.specs.List.{AllByRecursion}
use Rattle.ghost_xform.specs.declared.xform.XForm.{XForm}
use Rattle.link_payload.specs.declared.fields.PongFields.{PongFields}
use Rattle.ping_measure.specs.Points.{Happened, counted, silent, strayed}
use Rattle.ping_measure.specs.Life.{Life}
use Rattle.ping_measure.specs.declared.outcome.Outcome.{Outcome}
use Rattle.ping_measure.specs.declared.outcome.Outcome.TheVariants.{Idle, Again, Done, Failed}

-- the ghost time was read at some host time from `first` to `last`
abbrev pub WasRead : ℤ → ℤ → ℤ → ℤ → Type 0
WasRead c first last ghost_time = (t : ℤ) × (first ≤ℤ t) × (t ≤ℤ last) × (ghost_time ≡ t +ℤ c)

-- It came at most r after its ping was sent; its ghost time was read between the two, and the one before, where it
-- carries one, at most r before its ping.
pub record IsFairPong (c r : ℤ) (pong : PongFields) (at : ℤ) : Type 0 where
  pub round_trip : (at -ℤ pong.host) ≤ℤ r
  pub ghost_time : WasRead c pong.host at pong.ghost_time
  pub previous : (pong.previous ≡ pos 0 → ⊥) → WasRead c (pong.host -ℤ r) pong.host pong.previous

abbrev pub IsFair : ℤ → ℤ → Happened → Type 0
IsFair c r (counted pong at) = IsFairPong c r pong at
IsFair c r (silent at) = Unit {0}
IsFair c r (strayed session) = Unit {0}

-- Rule: Where each pong counted is honest and its round trip takes at most r, the measured offset is within half of r + 1 microseconds of
-- the true one, unless that is clipped.
abbrev pub AreFair : ℤ → ℤ → Life → Type 0
AreFair c r life = AllByRecursion (IsFair c r) life.happened

-- a fact of the offset, where the measurement is done
abbrev pub IfDone : Outcome → (XForm → Type 0) → Type 0
IfDone (Done xform) P = P xform
IfDone Idle P = Unit {0}
IfDone (Again ping) P = Unit {0}
IfDone (Failed fault) P = Unit {0}
