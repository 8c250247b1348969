-- The end of every event: peers are counted, and who has lost them all founds a session.
use Rattle.std.specs.Prelude.{ℕ, pos, ◌+◌, ◌*◌, ◌==◌, neg_ℤ, nat_lt, Bool, ◌||◌, ◌&&◌, not, [], None, if◌then◌else◌}
use Rattle.std.specs.Ordering.{int_eq}
use Rattle.rand_pcg.specs.Lcg.{started, increment_of}
use Rattle.rand_pcg.specs.Pcg.{multiplier_64}
use Rattle.ghost_xform.specs.GhostTime.{ghost_of}
use Rattle.lk_base.specs.IdOrder.{same_id}
use Rattle.lk_base.specs.Ids.{drawn_id, source_after}
use Rattle.lk_base.specs.declared.ids.NodeId.{NodeId}
use Rattle.lk_base.specs.declared.start.SessionStart.{SessionStart}
use Rattle.lk_base.specs.declared.timeline.Timeline.{Timeline}
use Rattle.peer_gateway.specs.Answers.{peers_in}
use Rattle.session_choice.specs.History.{opening}
use Rattle.timeline_math.specs.Beats.{beat_at}
use Rattle.client_state.specs.Commit.{same_bool, same_timeline}
use Rattle.client_state.specs.Edits.{timeline_at}
use Rattle.link_node.specs.Client.{renewed}
use Rattle.link_node.specs.Machine.{Machine, session_in, timeline_in, offset_in, start_in}
use Rattle.link_node.specs.declared.node.settling.Held.{Held}

-- Rule: A session that is founded has the next id drawn from the config's seed, which is the node's from then on.
-- the id that is drawn after so many from the seed; each takes eight words
unfoldable pub id_drawn : ℕ → ℕ → NodeId
id_drawn seed drawn = drawn_id (source_after (8 * drawn) (started 64 multiplier_64 seed (increment_of 64 0)))

-- Rule: A session that is founded goes on with the tempo and the beat of the one before, at ghost time 0.
unfoldable pub founding_timeline_in : Machine → Timeline
founding_timeline_in m =
    timeline_at (timeline_in m).mpb (beat_at (timeline_in m) (ghost_of (offset_in m) m.moment)) (pos 0)

-- Rule: A node that founds a session is alone in it: all rows of peers and all other sessions are forgotten.
-- Its id is new, and its ghost time is 0 now.
unfoldable pub founded : Machine → Machine
founded m = renewed (record m {
  drawn = m.drawn + 1;
  id = id_drawn m.config.seed m.drawn;
  sessions = opening (id_drawn m.config.seed m.drawn) (founding_timeline_in m) (neg_ℤ m.moment);
  starts = [];
  life = [];
  waiting = [];
  measuring = None;
  remeasure_at = None;
})

abbrev pub counted : Machine → Machine
counted m = record m { peers = peers_in (session_in m) m.life }

-- Rule: A node that had peers in its session and has none any more founds a session, alone.
-- there were peers at the end of the event before, and there are none
abbrev pub is_left : Machine → Bool
is_left m = nat_lt 0 m.peers && (peers_in (session_in m) m.life == 0)

unfoldable pub settled : Machine → Machine
settled m = if is_left m then founded (counted m) else counted m

-- ---- whether there is something new to tell

-- what alives tell
abbrev pub held_in : Machine → Held
held_in m = record { id = m.id; session = session_in m; timeline = timeline_in m; start = start_in m }

abbrev pub same_start : SessionStart → SessionStart → Bool
same_start a b = same_bool a.playing b.playing && (int_eq a.beats b.beats && int_eq a.stamp b.stamp)

abbrev pub same_held : Held → Held → Bool
same_held a b =
    same_id a.id b.id && (same_id a.session b.session && (same_timeline a.timeline b.timeline && same_start a.start b.start))

-- Rule: What an event changes of id, session, timeline or start is news, to be told by the next broadcast.
-- it differs from what was held before the event
unfoldable pub noted : Held → Machine → Machine
noted before m = record m { changed = m.changed || not (same_held before (held_in m)) }
