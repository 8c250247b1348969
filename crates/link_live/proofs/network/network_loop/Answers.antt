use Rattle.std.proofs.Common.{refl, ◌∙◌, w64}
use Rattle.std.proofs.lemmas.Int.{to_z-of_z}
use Rattle.link_live.proofs.LoopLemmas.{has_begun, ended_run, has_cause, has_cause_then}
use Rattle.link_live.proofs.network.network_loop.Goals as goal

pub loop-init : goal.loop-init
loop-init g c = record {
  goes = (tt, tt);
  run = has_begun _ _ _ _ c.requires.empty c.moment.ensures.opening.1 (to_z-of_z w64 _ (record { sfits = c.moment.type_inv }) ∙ c.moment.ensures.moment);
  cause = has_cause _ _ _ refl;
  gates = refl;
  config = refl;
}

pub returns-then-network_turn-clause-run : goal.returns-then-network_turn-clause-run
returns-then-network_turn-clause-run g c =
    ended_run _ _ _ _ c.network_turn.new.line c.network_turn.result c.if-network_turn.true (c.network_turn.ensures.run _ _ c.loop.invariant.run)

pub returns-then-network_turn-clause-cause : goal.returns-then-network_turn-clause-cause
returns-then-network_turn-clause-cause g c =
    has_cause_then _ _ _ _ _ _ c.loop.invariant.cause c.network_turn.ensures.works c.network_turn.ensures.fails c.network_turn.ensures.unbound
