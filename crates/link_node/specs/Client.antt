-- What a client is shown after the session's timeline or offset was touched.
use Rattle.client_state.specs.Timelines.{client_from_session_of}
use Rattle.link_node.specs.Machine.{Machine, timeline_in, offset_in}

-- the client's timeline goes on from its beat now, with the session's tempo and beats
unfoldable pub renewed : Machine → Machine
renewed m = record m { client = client_from_session_of m.client (timeline_in m) m.moment (offset_in m) }
