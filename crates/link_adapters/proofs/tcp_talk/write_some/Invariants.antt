-- A write that a signal interrupts appends nothing.
use Rattle.std.specs.Io.KnownBytes.{Keeps}
use Rattle.link_adapters.proofs.tcp_talk.write_some.Given as goal

abbrev pub invariant-loop : goal.invariant-loop
invariant-loop g l = record {
  goes : (goal.iterator-loop g).can_next l.iterator' × (goal.iterator-loop g).is_finite l.iterator';
  kept : Keeps (g.S.Write.contents l.initial.client) (g.S.Write.contents l.client);
}
