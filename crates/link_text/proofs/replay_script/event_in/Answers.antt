use Rattle.std.proofs.Common.{arith}
use Rattle.link_text.proofs.EventUniqueLemmas.{no_plain}
use Rattle.link_text.proofs.replay_script.event_in.Goals as goal

pub returns-in_default-clause-none : goal.returns-in_default-clause-none
returns-in_default-clause-none c = λ e says plain. c.in_default.ensures.none e says

pub returns-then-not-is_without_quantum-clause-none : goal.returns-then-not-is_without_quantum-clause-none
returns-then-not-is_without_quantum-clause-none c =
    no_plain c.args.version c.args.gates c.args.audio c.args.line.now _ (omega (arith, c.requires.few_gates)) c.if-version-eq1.true c.in-Some.ensures.some
    (λ without. cc (c.is_without_quantum.ensures.1 without, c.if-not-is_without_quantum.true))
