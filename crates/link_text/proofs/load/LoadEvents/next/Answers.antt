use Rattle.std.proofs.Common.{◌∙◌, ap, ◌<◌, arith, to_z, of_z, w64}
use Rattle.std.proofs.lemmas.Int.{ints}
use Rattle.link_text.specs.Load.{load_event_of}
use Rattle.link_text.specs.LoadRun.{LoadRun}
use Rattle.link_text.proofs.LoadLemmas.{event_is, moment_most, next_is}
use Rattle.link_text.proofs.load.LoadEvents.next.Goals as goal

pub later-self-inside-requires : goal.later-self-inside-requires
later-self-inside-requires c =
    let most = moment_most c.self.inside.seed c.self.inside.made in
    (omega (arith, ints, c.self.invariant.1), omega (arith, ints, c.self.invariant.1, c.self.invariant.2))

pub event_by-requires-clause-moment : goal.event_by-requires-clause-moment
event_by-requires-clause-moment c =
    let made = ap (λ (run : LoadRun). run.made) c.self.view_is in
    let few : c.self.inside.made < 524_288 = omega arith in
    let next = next_is c.self.inside.seed c.self.inside.made _ _ _ _ _ _ _ _ _ few c.self.invariant.0 c.self.invariant.1
    c.next_word-kind.ensures c.next_word-step.ensures c.next_word-word.ensures c.later-self-inside.ensures in
    (omega (arith, ints, next.moment), omega (arith, ints, next.moment, next.most))

pub invariant_of-self : goal.invariant_of-self
invariant_of-self c =
    let made = ap (λ (run : LoadRun). run.made) c.self.view_is in
    let few : c.self.inside.made < 524_288 = omega arith in
    let next = next_is c.self.inside.seed c.self.inside.made _ _ _ _ _ _ _ _ _ few c.self.invariant.0 c.self.invariant.1
    c.next_word-kind.ensures c.next_word-step.ensures c.next_word-word.ensures c.later-self-inside.ensures in
    (next.behind, omega (arith, ints, next.moment, next.most), omega arith)

pub returns-clause-event : goal.returns-clause-event
returns-clause-event c =
    let made = ap (λ (run : LoadRun). run.made) c.self.view_is in
    let few : c.self.inside.made < 524_288 = omega arith in
    let next = next_is c.self.inside.seed c.self.inside.made _ _ _ _ _ _ _ _ _ few c.self.invariant.0 c.self.invariant.1
    c.next_word-kind.ensures c.next_word-step.ensures c.next_word-word.ensures c.later-self-inside.ensures in
    c.event_by.ensures.event
    ∙ event_is c.self.inside.seed c.self.inside.made c.next_word-kind.result c.next_word-word.result c.args.state.now
    (to_z w64 (of_z w64 (to_z w64 (of_z w64 c.later-self-inside.result)))) next.kind next.peer (omega (arith, ints, next.moment, next.most))
    ∙ ap (λ (run : LoadRun). load_event_of run.seed run.made c.args.state.now) c.self.view_is
