use Rattle.std.proofs.Common.{◌≡◌, ◌∙◌, sym, arith}
use Rattle.std.proofs.lemmas.Int.{ints}
use Rattle.link_asks.proofs.TempoLemmas.{no_tempo, tempo_said}
use Rattle.link_asks.proofs.tempo_text.tempo_of.Goals as goal
use Rattle.link_asks.proofs.tempo_text.tempo_of.Goals.{then-mpb-lt60060-via-then-mpb-lt60060, then-mpb-lt60060-via-else-mpb-lt60060+then-mpb-gt3000000}

pub returns-in_default-clause-none : goal.returns-in_default-clause-none
returns-in_default-clause-none c = no_tempo c.args.word.now c.in_default.ensures.none

pub returns-then-millionths-eq0-clause-none : goal.returns-then-millionths-eq0-clause-none
returns-then-millionths-eq0-clause-none c = λ mpb is says.
    let found = c.in-Some.ensures.some in
    let said = tempo_said c.args.word.now c.in-Some.millionths found.0 found.1 mpb is says in
    omega (arith, said.0)

pub returns-then-mpb-lt60060-clause-none : goal.returns-then-mpb-lt60060-clause-none
returns-then-mpb-lt60060-clause-none c = λ mpb is says.
    let found = c.in-Some.ensures.some in
    let said = tempo_said c.args.word.now c.in-Some.millionths found.0 found.1 mpb is says in
    let same : c.mpb_of-mpb.result ≡ mpb = c.mpb_of-mpb.ensures ∙ sym said.1 in
    elim c.then-mpb-lt60060.branch [
      | then-mpb-lt60060-via-then-mpb-lt60060 w ↦ omega (arith, ints, same, is.fastest)
      | then-mpb-lt60060-via-else-mpb-lt60060+then-mpb-gt3000000 w ↦ omega (arith, ints, same, is.slowest)
    ]
