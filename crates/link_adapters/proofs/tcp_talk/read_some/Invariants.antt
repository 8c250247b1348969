-- The buffer keeps its length, and a read that a signal interrupts takes nothing.
use Rattle.std.proofs.Common.{◌≡◌, length}
use Rattle.std.specs.Io.KnownBytes.{Keeps}
use Rattle.link_adapters.proofs.tcp_talk.read_some.Given as goal

abbrev pub invariant-loop : goal.invariant-loop
invariant-loop g l = record {
  goes : (goal.iterator-loop g).can_next l.iterator' × (goal.iterator-loop g).is_finite l.iterator';
  room : length l.buf ≡ length l.initial.buf;
  kept : Keeps (g.S.Read.remaining l.initial.client) (g.S.Read.remaining l.client);
}
