-- A node at its opening: alone in a session of its own, whose ghost time is 0 at that moment.
use Rattle.std.specs.Prelude.{ℤ, pos, neg_ℤ, false, [], None}
use Rattle.lk_base.specs.declared.start.ClientStart.{ClientStart}
use Rattle.session_choice.specs.History.{opening}
use Rattle.client_state.specs.Edits.{timeline_at}
use Rattle.client_state.specs.declared.state.State.{State}
use Rattle.link_node.specs.Config.{ConfigValue}
use Rattle.link_node.specs.Machine.{Machine}

abbrev pub still_client : ClientStart
still_client = record { playing = false; time = pos 0; stamp = pos 0 }

-- beat 0 is at the opening moment
abbrev pub opening_state_of : ConfigValue → ℤ → State
opening_state_of config now = record {
  timeline = timeline_at config.mpb (pos 0) now;
  start = still_client;
  sync = config.sync;
  peers = 0;
  moment = now;
  app = 0;
  audio = 0;
  session = config.id;
  quantum = config.quantum;
}

-- Rule: A node opens alone in a session of its own id, with the config's tempo, at beat 0 and ghost time 0.
unfoldable pub opened : ConfigValue → ℤ → Machine
opened config now = record {
  config = config;
  moment = now;
  drawn = 0;
  id = config.id;
  sessions = opening config.id (timeline_at config.mpb (pos 0) (pos 0)) (neg_ℤ now);
  starts = [];
  life = [];
  peers = 0;
  waiting = [];
  remeasure_at = None;
  measuring = None;
  last_broadcast = None;
  changed = false;
  client = timeline_at config.mpb (pos 0) now;
  client_start = still_client;
  quantum = config.quantum;
  app = 0;
  audio = 0;
  published = opening_state_of config now;
}
