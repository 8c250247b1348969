use Rattle.std.proofs.Common.{refl, sym, ◌∙◌, true≢false, w64}
use Rattle.std.proofs.lemmas.Int.{to_z-of_z}
use Rattle.link_live.proofs.LoopLemmas.{has_risen, not_failed, posts_on_gates}
use Rattle.link_live.proofs.RunningLemmas.{run_turn}
use Rattle.link_live.proofs.network.network_turn.Goals as goal

pub post-line-requires : goal.post-line-requires
post-line-requires g c = record {
  gates = λ works.
      let before = not_failed _ (λ e. true≢false (sym (c.ask-got.ensures.asked.stays_failed e).0 ∙ works)) in
      posts_on_gates c.run_laws.ensures _ _ _ _ _ _ _ _ _ c.datagrams_go_out_on_gates.ensures c.turn-turned.ensures.turned c.journal-taken.ensures.fits
      (c.ask-got.ensures.gates ∙ c.requires.gates before) c.list.ensures;
}

pub returns-clause-run : goal.returns-clause-run
returns-clause-run g c = λ first told run.
    run_turn c.run_laws.ensures first _ _ told _ _ _ _ _ _ _ _ _ _ _ _ _ _ c.moment-opening.ensures.opening (to_z-of_z w64 _ (record { sfits = c.due-due.type_inv }) ∙ c.due-due.ensures) c.ask-got.ensures.asked c.turn-turned.ensures.turned
    c.journal-taken.ensures.fits c.list.ensures c.post-line.ensures.posted refl run

pub returns-clause-fails : goal.returns-clause-fails
returns-clause-fails g c = λ works fails.
    has_risen _ _ _ c.ask-got.new.line.failed c.post-line.result c.ask-got.ensures.works (c.ask-got.ensures.fails works) c.post-line.ensures.fails (λ e. (c.post-line.ensures.unbound e).0) fails

pub returns-clause-unbound : goal.returns-clause-unbound
returns-clause-unbound g c = λ failed.
    let asked = c.ask-got.ensures.asked.stays_failed failed in
    ((c.post-line.ensures.posted.none asked.0).0, (c.post-line.ensures.unbound asked.0).0 ∙ c.ask-got.ensures.unbound failed, (c.post-line.ensures.unbound asked.0).1 ∙ asked.1)
