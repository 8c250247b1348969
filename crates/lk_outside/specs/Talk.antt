-- What is seen of a talk, and what its calls do to the endpoint that it was opened at.
use Rattle.std.specs.Prelude.{◌≡◌, ℕ, List, Option, Some}
use Rattle.lk_base.specs.declared.endpoint.Endpoint.{Endpoint}
use Rattle.lk_outside.specs.declared.port.Bound.{Bound}
use Rattle.lk_outside.specs.declared.port.Bound.TheVariants.{Ready, Failed}

-- a talk's bytes left and written where it tells them, the endpoint that it is opened at, and its count of failures
pub record TalkSeen : Type 0 where
  pub left : Option (List ℕ)
  pub written : Option (List ℕ)
  pub opened : Option Endpoint
  pub faults : ℕ

-- Rule: A talk is opened at the endpoint that it listened at, and a failed listening leaves it as it was.
abbrev pub Opens : Option Endpoint → Option Endpoint → Endpoint → Bound → Type 0
Opens before after at Ready = after ≡ Some at
Opens before after at Failed = after ≡ before
