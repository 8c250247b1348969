-- The state that clients are shown.
use Rattle.std.specs.Prelude.{◌==◌, Bool, ◌&&◌, if◌then◌else◌}
use Rattle.std.specs.Ordering.{int_eq}
use Rattle.lk_base.specs.IdOrder.{same_id}
use Rattle.lk_base.specs.declared.start.ClientStart.{ClientStart}
use Rattle.client_state.specs.Commit.{same_bool, same_timeline, same_playing}
use Rattle.client_state.specs.declared.state.State.{State}
use Rattle.link_node.specs.Machine.{Machine, session_in}
use Rattle.link_node.specs.declared.event.Change.{Change}
use Rattle.link_node.specs.declared.event.Change.TheVariants.{Same, Published}

-- Rule: A published state tells timeline, start, sync, number of peers, moment, the commits taken, session and quantum.
abbrev pub state_in : Machine → State
state_in m = record {
  timeline = m.client;
  start = m.client_start;
  sync = m.config.sync;
  peers = m.peers;
  moment = m.moment;
  app = m.app;
  audio = m.audio;
  session = session_in m;
  quantum = m.quantum;
}

abbrev pub same_client_start : ClientStart → ClientStart → Bool
same_client_start a b = same_playing a b && int_eq a.stamp b.stamp

-- Rule: A state is published exactly where it differs from the last one published in more than its moment.
unfoldable pub alike : State → State → Bool
alike a b =
    same_timeline a.timeline b.timeline
    && (same_client_start a.start b.start
    && (same_bool a.sync b.sync
    && ((a.peers == b.peers)
    && ((a.app == b.app)
    && ((a.audio == b.audio)
    && (same_id a.session b.session && int_eq a.quantum b.quantum))))))

unfoldable pub change_in : Machine → Change
change_in m = if alike (state_in m) m.published then Same else Published

-- a state that differs from the one published last is published
unfoldable pub shown : Machine → Machine
shown m = if alike (state_in m) m.published then m else record m { published = state_in m }
