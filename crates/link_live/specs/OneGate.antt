-- The config of a node with one gate.
use Rattle.std.specs.Prelude.{ℕ, ℤ, pos, true, [], ◌∷◌}
use Rattle.rand_pcg.specs.Lcg.{started, increment_of}
use Rattle.rand_pcg.specs.Pcg.{multiplier_64}
use Rattle.lk_base.specs.Ids.{drawn_id}
use Rattle.link_node.specs.Config.{ConfigValue, GateValue}

-- Its id is the first that the seed gives. It shares starts, is in group 0, and counts in bars of four beats.
abbrev pub one_gate_from : ℕ → ℤ → GateValue → ConfigValue
one_gate_from seed mpb gate = record {
  id = drawn_id (started 64 multiplier_64 seed (increment_of 64 1));
  seed = seed;
  mpb = mpb;
  sync = true;
  group = 0;
  quantum = pos 4_000_000;
  gates = gate ∷ [];
}
