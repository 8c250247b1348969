use Rattle.std.proofs.Common.{ap, sym, subst, arith, ℤ}
use Rattle.std.proofs.lemmas.Int.{ints}
use Rattle.lk_base.specs.Ranges.{IsQuantum, IsWithinLimit}
use Rattle.lk_base.specs.declared.start.ClientStart.{ClientStart}
use Rattle.client_state.specs.declared.state.State.{State}
use Rattle.link_text.proofs.load.tempo_commit.Goals as goal

pub returns-clause-tidy : goal.returns-clause-tidy
returns-clause-tidy c =
    let start = ap (λ (state : State). state.start) c.set_tempo.ensures.value in
    let quantum = ap (λ (state : State). state.quantum) c.set_tempo.ensures.value in
    c.between.ensures.tidy c.set_tempo.ensures.tidy (subst (λ (start : ClientStart). IsWithinLimit start.time) (sym start) c.requires.tidy.start)
    (subst (λ (q : ℤ). IsQuantum q) (sym quantum) c.requires.tidy.quantum) (omega (arith, ints))
