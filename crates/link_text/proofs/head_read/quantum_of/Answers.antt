use Rattle.std.proofs.Common.{codes, refl}
use Rattle.std.specs.Fmt.{signed_decimal}
use Rattle.lk_base.specs.Ranges.{IsQuantum}
use Rattle.link_text.proofs.EventLemmas.{lacks_by_test}
use Rattle.link_text.proofs.HeadLemmas.{some_said, none_said, quantum_lacks}
use Rattle.link_text.proofs.head_read.quantum_of.Goals as goal

pub returns-clause-some : goal.returns-clause-some
returns-clause-some c =
    some_said IsQuantum signed_decimal (codes "quantum") c.args.line.now c.quantum_behind.result c.quantum_behind.ensures.some

pub returns-clause-none : goal.returns-clause-none
returns-clause-none c =
    none_said IsQuantum signed_decimal (codes "quantum") c.args.line.now c.quantum_behind.result (lacks_by_test (codes "quantum") refl) quantum_lacks c.quantum_behind.ensures.none
