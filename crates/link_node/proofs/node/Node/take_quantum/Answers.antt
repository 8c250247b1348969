use Rattle.std.proofs.Common.{◌∙◌, ap, ℤ}
use Rattle.std.specs.Prelude.{unwrap_or}
use Rattle.link_node.proofs.NumberLemmas.{quantum-given}
use Rattle.link_node.proofs.node.Node.take_quantum.Goals as goal

pub invariant_of-self-clause-quantum_range : goal.invariant_of-self-clause-quantum_range
invariant_of-self-clause-quantum_range c =
    (quantum-given c.args.quantum c.args.self.now.quantum c.unwrap_or-self.result c.requires c.args.self.now.quantum_range c.unwrap_or-self.ensures).0

pub returns-clause-stands : goal.returns-clause-stands
returns-clause-stands c m stands =
    let given = quantum-given c.args.quantum c.args.self.now.quantum c.unwrap_or-self.result c.requires c.args.self.now.quantum_range c.unwrap_or-self.ensures in
    record {
      config = stands.config;
      moment = stands.moment;
      ids = stands.ids;
      id = stands.id;
      sessions = stands.sessions;
      session_start = stands.session_start;
      life = stands.life;
      peers = stands.peers;
      waiting = stands.waiting;
      remeasure_at = stands.remeasure_at;
      measuring = stands.measuring;
      last_broadcast = stands.last_broadcast;
      changed = stands.changed;
      client = stands.client;
      client_start = stands.client_start;
      quantum = given.1 ∙ ap (λ (z : ℤ). unwrap_or c.args.quantum z) stands.quantum;
      app = stands.app;
      audio = stands.audio;
      published = stands.published;
    }
