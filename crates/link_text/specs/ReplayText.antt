-- What a replay writes: the opening state, for each event the datagrams sent and then the state if it was published, and how much
-- there was.
use Rattle.std.specs.Prelude.{ℕ, ℤ, ◌+◌, List, [], ◌∷◌, ◌++◌, length, codes, if◌then◌else◌, nat_eq}
use Rattle.std.specs.List.{flat_map}
use Rattle.std.specs.Fmt.{decimal, signed_decimal}
use Rattle.hex.specs.Hex.{encode_lower}
use Rattle.client_state.specs.declared.state.State.{State}
use Rattle.link_node.specs.Config.{ConfigValue}
use Rattle.link_node.specs.Event.{EventValue, SendingValue, moment_of}
use Rattle.link_node.specs.Machine.{Machine}
use Rattle.link_node.specs.Opening.{opened}
use Rattle.link_node.specs.Runs.{shown_by, published_of, sent_of}
use Rattle.link_node.specs.Step.{step_of, sends_of, change_of}
use Rattle.link_lines.specs.Line.{line_of}
use Rattle.link_script.specs.ReplayScript.{hex_word}
use Rattle.link_lines.specs.Words.{truth_text_of, endpoint_text_of}

-- the session, in 16 hex digits, and the quantum: version 1 tells neither
abbrev pub profile_words : ℕ → State → List (List ℕ)
profile_words version state =
    if nat_eq version 1 then [] else encode_lower state.session.0 ∷ signed_decimal state.quantum ∷ []

-- Rule: The line `state` tells the number, timeline, start, sync, peers, moment, both counts of commits, and in version 2 session and
-- quantum.
unfoldable pub state_line_of : ℕ → ℕ → State → List ℕ
state_line_of version number state =
    line_of (
    codes "state" ∷ decimal number
    ∷ signed_decimal state.timeline.mpb ∷ signed_decimal state.timeline.beat ∷ signed_decimal state.timeline.time
    ∷ truth_text_of state.start.playing ∷ signed_decimal state.start.time ∷ signed_decimal state.start.stamp
    ∷ truth_text_of state.sync ∷ decimal state.peers ∷ signed_decimal state.moment ∷ decimal state.app ∷ decimal state.audio
    ∷ profile_words version state
    )

-- a datagram that is sent, with the moment of the event that it follows from
unfoldable pub sending_line_of : ℤ → SendingValue → List ℕ
sending_line_of now sending =
    line_of (codes "tx" ∷ signed_decimal now ∷ decimal sending.gate.0 ∷ endpoint_text_of sending.to ∷ hex_word sending.bytes ∷ [])

-- how many events there were, how many states with the opening one, how many datagrams were sent
unfoldable pub done_line_of : ℕ → ℕ → ℕ → List ℕ
done_line_of events states sends = line_of (codes "done" ∷ decimal events ∷ decimal states ∷ decimal sends ∷ [])

-- ---- the events

abbrev pub states_text_of : ℕ → ℕ → List State → List ℕ
states_text_of version number [] = []
states_text_of version number (state ∷ states) = state_line_of version number state ++ states_text_of version (number + 1) states

-- the state that is published in a step, if there is one
abbrev pub published_in : Machine → EventValue → List State
published_in m e = shown_by (change_of m e) (step_of m e).published

unfoldable pub event_text_of : ℕ → Machine → ℕ → EventValue → List ℕ
event_text_of version m number e =
    flat_map (sending_line_of (moment_of e)) (sends_of m e) ++ states_text_of version number (published_in m e)

-- what follows where so many states were published
unfoldable pub events_text_of : ℕ → Machine → ℕ → List EventValue → List ℕ
events_text_of version m number [] = []
events_text_of version m number (e ∷ es) =
    event_text_of version m number e ++ events_text_of version (step_of m e) (number + length (published_in m e)) es

-- Rule: A replay tells the opening state, for each event its datagrams and then its state if one was published, and last the counts.
unfoldable pub replay_text_of : ℕ → ConfigValue → ℤ → List EventValue → List ℕ
replay_text_of version config now es =
    state_line_of version 0 (opened config now).published
    ++ events_text_of version (opened config now) 1 es
    ++ done_line_of (length es) (length (published_of config now es)) (length (sent_of config now es))
