-- What is told of a state.
use Rattle.client_state.specs.declared.state.State.{State}
use Rattle.session_server.specs.declared.telling.View.{View}

-- Rule: A session server tells tempo, peers, play and session where they differ from what it told last, at most each 250,000 microseconds.
abbrev pub told_view_of : State → View
told_view_of state = record { mpb = state.timeline.mpb; peers = state.peers; playing = state.start.playing; session = state.session }
