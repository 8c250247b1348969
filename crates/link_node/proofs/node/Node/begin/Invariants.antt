use Rattle.std.proofs.Common.{length}
use Rattle.link_node.proofs.BeginLemmas.{AreBegun}
use Rattle.link_node.proofs.node.Node.begin.Given as goal

abbrev pub invariant-loop-session : goal.invariant-loop-session
invariant-loop-session l = AreBegun l.initial.self l.self l.initial.sends l.sends

abbrev pub decreases-loop-session : goal.decreases-loop-session
decreases-loop-session l = length l.self.waiting.items
