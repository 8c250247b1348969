-- How a run under control is set up by a seed, its options and the head of a live script, and how it is answered.
use Rattle.std.specs.Prelude.{ℕ, Bool, true, false, map}
use Rattle.rand_pcg.specs.Lcg.{started, increment_of}
use Rattle.rand_pcg.specs.Pcg.{multiplier_64}
use Rattle.lk_base.specs.Ids.{drawn_id}
use Rattle.link_node.specs.Config.{ConfigValue, gate_value}
use Rattle.link_text.specs.declared.live_head.LiveHead.{LiveHead}
use Rattle.link_control.specs.ControlRun.{ControlSetup}
use Rattle.link_control.specs.declared.run.ControlEnd.{ControlEnd}
use Rattle.link_control.specs.declared.run.ControlEnd.TheVariants as end
use Rattle.link_words.specs.declared.control_words.ControlOptions.{ControlOptions}
use Rattle.link_commands.specs.declared.status.Status.{Status}
use Rattle.link_commands.specs.declared.status.Status.TheVariants as status

-- Rule: The node of `control` has the first id drawn from its seed, the head's tempo, sync and gates, and the options' group and quantum.
-- the node's config: its id is the first that the seed gives
abbrev pub controlled_config_from : ℕ → ControlOptions → LiveHead → ConfigValue
controlled_config_from seed options head = record {
  id = drawn_id (started 64 multiplier_64 seed (increment_of 64 1));
  seed = seed;
  mpb = head.mpb;
  sync = head.sync;
  group = options.group;
  quantum = options.quantum;
  gates = map gate_value head.gates.items;
}

abbrev pub control_setup_from : ℕ → ControlOptions → LiveHead → ControlSetup
control_setup_from seed options head = record {
  config = controlled_config_from seed options head;
  events = options.events;
  at = options.at;
}

-- the status of a run that ended so, and whose summary was written or not
abbrev pub control_status_from : ControlEnd → Bool → Status
control_status_from end.Memory written = status.Memory
control_status_from end.Port written = status.Port
control_status_from end.Talk written = status.Talk
control_status_from end.Events written = status.Events
control_status_from end.Lines written = status.Lines
control_status_from end.Well true = status.Done
control_status_from end.Well false = status.Sink
