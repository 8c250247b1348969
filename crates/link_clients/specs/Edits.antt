-- What a line of a client edits.
use Rattle.std.specs.Prelude.{ℕ, ℤ, true, false, Option, Some, None, option_map, unwrap_or}
use Rattle.client_state.specs.Commit.{commit_between}
use Rattle.client_state.specs.Edits.{tempo_set_of, forced_of, requested_of, quantum_set_of, played_of}
use Rattle.client_state.specs.declared.commit.Commit.{Commit}
use Rattle.client_state.specs.declared.state.State.{State}
use Rattle.link_shared.specs.declared.capture.Capture.{Capture}
use Rattle.link_asks.specs.declared.ask.Ask.{Ask}
use Rattle.link_asks.specs.declared.ask.Ask.TheVariants.{Status, Now, Beat, Phase, Time, Tempo, Play, Stop, Force, Request, Quantum, Watch, Unwatch, Clients, Gates, End}
use Rattle.link_control.specs.Log.{Numbered}

-- Rule: The lines `tempo`, `bpm`, `play`, `stop`, `force`, `request` and `quantum` edit the shown state at the moment of the line, and
-- other lines edit nothing; without a time of its own, `play` or `stop` is at that moment.
unfoldable pub edited_by : Ask → ℤ → State → Option State
edited_by Status at state = None
edited_by Now at state = None
edited_by (Beat time) at state = None
edited_by (Phase time) at state = None
edited_by (Time beat) at state = None
edited_by (Tempo mpb) at state = Some (record state { timeline = tempo_set_of state.timeline mpb at })
edited_by (Play time) at state = Some (record state { start = played_of state.start true (unwrap_or time at) })
edited_by (Stop time) at state = Some (record state { start = played_of state.start false (unwrap_or time at) })
edited_by (Force beat time) at state = Some (record state { timeline = forced_of state.timeline beat time state.quantum })
edited_by (Request beat time) at state = Some (record state { timeline = requested_of state.peers state.timeline beat time state.quantum })
edited_by (Quantum quantum) at state = Some (record state { quantum = quantum_set_of quantum })
edited_by Watch at state = None
edited_by Unwatch at state = None
edited_by Clients at state = None
edited_by Gates at state = None
edited_by End at state = None

-- what is committed: what the line makes of the state that is shown, at its moment
unfoldable pub commit_of_ask : Ask → ℤ → Capture → Option Commit
commit_of_ask ask at capture =
    option_map (λ edited. commit_between capture.state capture.shown edited at) (edited_by ask at capture.shown)

-- behind its number
unfoldable pub commit_asked : Option Ask → ℕ → ℤ → Capture → Option Numbered
commit_asked None number at capture = None
commit_asked (Some ask) number at capture = option_map (λ commit. (number, commit)) (commit_of_ask ask at capture)
