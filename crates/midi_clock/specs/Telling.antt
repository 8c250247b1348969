-- What is told of a state.
use Rattle.client_state.specs.declared.state.State.{State}
use Rattle.midi_clock.specs.declared.telling.View.{View}

-- Rule: The MIDI clock tells tempo, peers and play where they differ from what it told last, at most each 250,000 microseconds.
abbrev pub view_of : State → View
view_of state = record { mpb = state.timeline.mpb; peers = state.peers; playing = state.start.playing }
