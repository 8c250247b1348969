-- Taking a commit.
use Rattle.std.specs.Prelude.{ℕ, ℤ, int_lt, Bool, ◌+◌, ◌&&◌, [], ◌∷◌, ◌++◌, if◌then◌else◌, is_some, Option, Some, None, unwrap_or}
use Rattle.ghost_xform.specs.GhostTime.{ghost_of}
use Rattle.lk_base.specs.declared.start.ClientStart.{ClientStart}
use Rattle.lk_base.specs.declared.timeline.Timeline.{Timeline}
use Rattle.session_choice.specs.History.{committed}
use Rattle.client_state.specs.Starts.{start_to_session_of}
use Rattle.client_state.specs.Timelines.{session_from_client_of}
use Rattle.client_state.specs.declared.commit.Commit.{Commit}
use Rattle.link_node.specs.Client.{renewed}
use Rattle.link_node.specs.Machine.{Machine, timeline_in, offset_in, start_in}

-- ---- the start

-- Rule: A commit's start reaches the session only with sync, and only where its stamp is greater than that of the session's start.
abbrev pub reaches_session : ClientStart → Machine → Bool
reaches_session start m = m.config.sync && int_lt (start_in m).stamp (ghost_of (offset_in m) start.stamp)

abbrev pub with_client_start : ClientStart → Machine → Machine
with_client_start start m = record m {
  client_start = start;
  starts =
      if reaches_session start m then m.starts ++ start_to_session_of start (timeline_in m) (offset_in m) ∷ []
      else m.starts;
}

-- a start counts where it is later than the client's
unfoldable pub start_committed : Option ClientStart → Machine → Machine
start_committed None m = m
start_committed (Some start) m = if int_lt m.client_start.stamp start.stamp then with_client_start start m else m

-- ---- the quantum

-- Rule: A commit's quantum becomes the node's.
abbrev pub quantum_committed : Option ℤ → Machine → Machine
quantum_committed quantum m = record m { quantum = unwrap_or quantum m.quantum }

-- the start and the quantum of a commit
abbrev pub rest_committed : Commit → Machine → Machine
rest_committed commit m = quantum_committed commit.quantum (start_committed commit.start m)

-- ---- the timeline

-- the session takes the timeline that is made of the client's
abbrev pub with_client_timeline : Timeline → Timeline → Machine → Machine
with_client_timeline client session m = renewed (record m { client = client; sessions = committed session m.sessions })

-- where the session's beat origin can't grow, nothing of the commit is taken
abbrev pub client_taken : Option Timeline → Timeline → Machine → Machine
client_taken None client m = m
client_taken (Some session) client m = with_client_timeline client session m

-- Rule: Where a commit would need a greater beat origin than there is, nothing of the commit is taken, but it is counted.
abbrev pub committed_by : Option Timeline → Timeline → Commit → Machine → Machine
committed_by session client commit m =
    if is_some session then rest_committed commit (client_taken session client m) else m

-- Rule: A commit's timeline becomes the client's, and the session's as of the commit's own time.
abbrev pub timeline_committed : Option Timeline → Commit → Machine → Machine
timeline_committed None commit m = rest_committed commit m
timeline_committed (Some client) commit m =
    committed_by (session_from_client_of (timeline_in m) client commit.at (offset_in m)) client commit m

unfoldable pub commit_taken : Commit → Machine → Machine
commit_taken commit m = timeline_committed commit.timeline commit m

-- ---- counted

unfoldable pub app_taken : Commit → Machine → Machine
app_taken commit m = commit_taken commit (record m { app = m.app + 1 })

unfoldable pub audio_taken : ℕ → Commit → Machine → Machine
audio_taken number commit m = commit_taken commit (record m { audio = number })
