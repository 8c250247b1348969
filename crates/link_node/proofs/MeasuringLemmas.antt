-- A measurement that runs, and what is sent for it.
use Rattle.std.proofs.Common.{◌≡◌, ◌⊎◌, inl, inr, ◌∙◌, ap, List, [], ◌++◌, append-nil, refl, Option, Some, None, IsSome, rules}
use Rattle.lk_base.specs.declared.endpoint.Endpoint.{Endpoint}
use Rattle.lk_base.specs.declared.endpoint.Gate.{Gate}
use Rattle.lk_base.specs.declared.endpoint.Target.{Target}
use Rattle.link_payload.specs.declared.fields.PongFields.{PongFields}
use Rattle.link_payload.specs.declared.fields.PingFields.{PingFields}
use Rattle.ping_measure.specs.Life.{Life}
use Rattle.ping_measure.specs.Life as measure
use Rattle.ping_measure.specs.declared.measure.Measure.{Measure}
use Rattle.ping_measure.specs.declared.outcome.Outcome.{Outcome}
use Rattle.ping_measure.specs.declared.outcome.Outcome.TheVariants.{Idle, Again, Done, Failed}
use Rattle.link_node.specs.Event.{SendingValue}
use Rattle.link_node.specs.Machine.{Machine}
use Rattle.link_node.specs.Measuring.{pings_of, tick_by, pong_by}
use Rattle.link_node.specs.Standing.{AreMeasuring}

-- the life that the measurement stands for
pub record Runs (kept : Measure) (life : Option Life) : Type 0 where
  pub value : Life
  pub is : life ≡ Some value
  pub stands : measure.StandsFor kept value

pub runs : (running : Option Measure) (life : Option Life) (kept : Measure) → running ≡ Some kept → AreMeasuring running life → Runs kept life
runs running None kept is are = search (rules, rw is at are)
runs running (Some value) kept is are = record { value = value; is = refl; stands = rw is at are }

pub none_runs : (running : Option Measure) (life : Option Life) → running ≡ None → AreMeasuring running life → life ≡ None
none_runs running None is are = refl
none_runs running (Some value) is are = search (rules, rw is at are)

-- a ping is sent where the measurement goes on
pub sends_again : (outcome : Outcome) (target : Target) → (pings_of outcome target ≡ []) ⊎ ((ping : PingFields) × (outcome ≡ Again ping))
sends_again Idle target = inl refl
sends_again (Again ping) target = inr (ping, refl)
sends_again (Done xform) target = inl refl
sends_again (Failed fault) target = inl refl

-- where none runs, nothing follows
pub no_tick : (life : Option Life) (m : Machine) → life ≡ None → tick_by life m ≡ m
no_tick life m is = rw is

pub no_pong : (life : Option Life) (gate : Gate) (from : Endpoint) (pong : PongFields) (m : Machine) → life ≡ None → pong_by life gate from pong m ≡ m
no_pong life gate from pong m is = rw is

pub sent_or_on : (outcome : Outcome) (target : Target) (old new : List SendingValue) (after : Option Measure) (kept : Measure) → new ≡ old ++ pings_of outcome target → ((ping : PingFields) → outcome ≡ Again ping → after ≡ Some kept) → (new ≡ old) ⊎ IsSome after
sent_or_on outcome target old new after kept sent again =
    elim (sends_again outcome target) [
      | inl none ↦ inl (sent ∙ ap (λ (pings : List SendingValue). old ++ pings) none ∙ append-nil old)
      | inr some ↦ inr (rw (again some.0 some.1) (search rules))
    ]
