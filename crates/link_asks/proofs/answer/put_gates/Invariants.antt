use Rattle.std.proofs.Common.{◌≡◌, ◌≤◌, ◌+◌, ◌*◌, ◌++◌, codes, length, take}
use Rattle.std.specs.Fmt.{decimal}
use Rattle.arrayvec.specs.ArrayVec.{array_vec_len}
use Rattle.link_asks.specs.Answers.{gate_words}
use Rattle.link_asks.proofs.TextLemmas.{spaced}
use Rattle.link_asks.proofs.answer.put_gates.Given as goal

abbrev pub invariant-loop-gate : goal.invariant-loop-gate
invariant-loop-gate l = record {
  items : l.line.items ≡ (codes "gates " ++ decimal (length l.gates)) ++ spaced (gate_words (take l.gate-index l.gates));
  len : array_vec_len l.line ≤ 26 + 29 * l.gate-index;
}
