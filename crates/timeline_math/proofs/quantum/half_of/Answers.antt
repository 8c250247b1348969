use Rattle.std.proofs.Common.{arith}
use Rattle.std.proofs.lemmas.Int.{ints}
use Rattle.timeline_math.proofs.QuantumLemmas.{half_from}
use Rattle.timeline_math.proofs.quantum.half_of.Goals as goal

pub returns-clause-value : goal.returns-clause-value
returns-clause-value c =
    half_from c.args.quantum _ c.requires.0 (omega (arith, ints)) (omega (arith, ints))
