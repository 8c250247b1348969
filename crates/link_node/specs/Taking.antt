-- Taking the state that a peer tells.
use Rattle.std.specs.Prelude.{int_lt, Bool, ◌&&◌, [], ◌∷◌, ◌++◌, if◌then◌else◌}
use Rattle.lk_base.specs.IdOrder.{same_id}
use Rattle.lk_base.specs.declared.endpoint.Gate.{Gate}
use Rattle.lk_base.specs.declared.ids.NodeId.{NodeId}
use Rattle.lk_base.specs.declared.start.SessionStart.{SessionStart}
use Rattle.link_payload.specs.declared.fields.PeerFields.{PeerFields}
use Rattle.asdp_messages.specs.declared.message.StateMsg.{StateMsg}
use Rattle.timeline_math.specs.Tidying.{tidy_of}
use Rattle.peer_gateway.specs.Answers.{seen_of}
use Rattle.peer_gateway.specs.Happenings.{life_after, row_seen}
use Rattle.peer_gateway.specs.declared.row.PeerRow.{PeerRow}
use Rattle.peer_gateway.specs.declared.row.Seen.{Seen}
use Rattle.peer_gateway.specs.declared.row.Seen.TheVariants as seen
use Rattle.session_choice.specs.History.{saw_of, saw_after}
use Rattle.session_choice.specs.declared.verdict.Saw.{Saw}
use Rattle.session_choice.specs.declared.verdict.Saw.TheVariants.{Taken, Kept, New, Full}
use Rattle.client_state.specs.Starts.{start_to_client_of}
use Rattle.link_node.specs.Client.{renewed}
use Rattle.link_node.specs.Machine.{Machine, session_in, timeline_in, offset_in, start_in}

-- ---- the timeline

-- it is of the current session
abbrev pub is_current : NodeId → Machine → Bool
is_current session m = same_id session (session_in m)

-- Rule: A session that is heard of, isn't known and finds room waits, last in the list, to be measured.
-- a new session waits to be measured, and a later timeline of the current one renews the client's
abbrev pub followed : Saw → NodeId → Machine → Machine
followed New session m = record m { waiting = m.waiting ++ session ∷ [] }
followed Taken session m = if is_current session m then renewed m else m
followed Kept session m = m
followed Full session m = m

-- Rule: A timeline that is heard is tidied and taken by its session, unless that is a new one for which there is no room.
unfoldable pub timeline_taken : PeerFields → Machine → Machine
timeline_taken fields m =
    followed
    (saw_of m.sessions fields.session (tidy_of fields.timeline))
    fields.session
    (record m { sessions = saw_after m.sessions fields.session (tidy_of fields.timeline) })

-- ---- the start

-- Rule: A peer's start reaches the client only with sync (start and stop shared), and only where its stamp is greater than that of the
-- session's start.
abbrev pub reaches_client : SessionStart → Machine → Bool
reaches_client start m = int_lt (start_in m).stamp start.stamp && m.config.sync

abbrev pub with_start : SessionStart → Machine → Machine
with_start start m = record m {
  starts = m.starts ++ start ∷ [];
  client_start =
      if reaches_client start m then start_to_client_of start (timeline_in m) (offset_in m) else m.client_start;
}

-- Rule: A start that is heard counts in the current session alone.
unfoldable pub start_taken : PeerFields → Machine → Machine
start_taken fields m = if is_current fields.session m then with_start fields.start m else m

-- ---- the whole state

-- the peer's row, with the session that it tells
abbrev pub row_of : Gate → StateMsg → Machine → PeerRow
row_of gate msg m = row_seen gate msg.from msg.ttl msg.fields.session msg.fields.endpoint m.moment

unfoldable pub sighted : Gate → StateMsg → Machine → Machine
sighted gate msg m = record m { life = life_after (seen_of gate msg.from m.life) (row_of gate msg m) m.life }

-- Rule: Of a state that is heard nothing is taken where its gate has no room for the peer's row.
abbrev pub listened : Seen → PeerFields → Machine → Machine
listened seen.TableFull fields m = m
listened seen.New fields m = start_taken fields (timeline_taken fields m)
listened seen.Known fields m = start_taken fields (timeline_taken fields m)

unfoldable pub state_taken : Gate → StateMsg → Machine → Machine
state_taken gate msg m = listened (seen_of gate msg.from m.life) msg.fields (sighted gate msg m)
