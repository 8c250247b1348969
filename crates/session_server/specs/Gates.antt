-- How gates stand, as clients are told.
use Rattle.std.specs.Prelude.{ℕ, Bool, true, false}
use Rattle.link_asks.specs.declared.known.GateState.{GateState}
use Rattle.link_asks.specs.declared.known.GateState.TheVariants as state
use Rattle.link_asks.specs.declared.known.GateTold.{GateTold}

-- Rule: A gate is told as bound from its bind on until a call of the network fails, and then as failed; one that wasn't bound as unbound.
abbrev pub gate_state_of : Bool → Bool → GateState
gate_state_of false failed = state.Unbound
gate_state_of true false = state.Bound
gate_state_of true true = state.Failed

abbrev pub told_gate_of : GateState → ℕ → GateTold
told_gate_of state refused = record { state = state; refused = refused }
