-- How a live run is set up by a seed, its options and its script, and how it is answered.
use Rattle.std.specs.Prelude.{◌≤◌, ℕ, Bool, true, false, List, map}
use Rattle.rand_pcg.specs.Lcg.{started, increment_of}
use Rattle.rand_pcg.specs.Pcg.{multiplier_64}
use Rattle.lk_base.specs.Ids.{drawn_id}
use Rattle.lk_outside.specs.Stream.{Stream}
use Rattle.link_node.specs.Config.{ConfigValue, gate_value}
use Rattle.link_script.specs.LiveScript.{IsLiveText, commands_told}
use Rattle.link_script.specs.declared.live_script.LiveScript.{LiveScript}
use Rattle.link_live.specs.Headline.{LiveSetup}
use Rattle.link_live.specs.LiveRun.{setup_of}
use Rattle.link_commands.specs.Statuses.{WasRead}
use Rattle.link_live.specs.declared.run.LiveEnd.{LiveEnd}
use Rattle.link_live.specs.declared.run.LiveEnd.TheVariants as end
use Rattle.link_words.specs.declared.live_words.LiveOptions.{LiveOptions}
use Rattle.link_commands.specs.declared.status.Status.{Status}
use Rattle.link_commands.specs.declared.status.Status.TheVariants as status

-- Rule: A live run's node has the first id drawn from its seed, the script's tempo, sync and gates, and the group and quantum of the
-- options.
-- the node's config: its id is the first that the seed gives
abbrev pub config_from : ℕ → LiveOptions → LiveScript → ConfigValue
config_from seed options script = record {
  id = drawn_id (started 64 multiplier_64 seed (increment_of 64 1));
  seed = seed;
  mpb = script.mpb;
  sync = script.sync;
  group = options.group;
  quantum = options.quantum;
  gates = map gate_value script.gates.items;
}

abbrev pub setup_from : ℕ → LiveOptions → LiveScript → LiveSetup
setup_from seed options script = setup_of (config_from seed options script) options.events script options.blocks

-- the text of a script that was read to its end, and said this one
pub record IsRead (input input' : Stream) (script : LiveScript) : Type 0 where
  pub bytes : List ℕ
  pub read : WasRead 16_777_216 input input' bytes
  pub few : commands_told bytes ≤ 4_096
  pub text : IsLiveText bytes script.mpb script.sync (map gate_value script.gates.items) script.apps.items script.blocks.items

-- Rule: The status of a live run goes by how it ended, and only where it ended well by whether its text was written.
-- the status of a run that ended so, and whose report was written or not
abbrev pub status_from : LiveEnd → Bool → Status
status_from end.Memory written = status.Memory
status_from end.Port written = status.Port
status_from end.Audio written = status.Audio
status_from end.Events written = status.Events
status_from end.Well true = status.Done
status_from end.Well false = status.Sink
