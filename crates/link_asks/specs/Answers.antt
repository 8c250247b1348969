-- The answers to a client's lines.
use Rattle.std.specs.Prelude.{◌+ℤ◌, ◌-ℤ◌, ℕ, ℤ, Bool, if◌then◌else◌, List, [], ◌∷◌, length, codes, Option, Some, None}
use Rattle.std.specs.Fmt.{decimal, signed_decimal}
use Rattle.lk_base.specs.Rounding.{clipped_of}
use Rattle.lk_base.specs.declared.timeline.Timeline.{Timeline}
use Rattle.timeline_math.specs.Beats.{beat_at, time_at}
use Rattle.timeline_math.specs.Quantum.{phase_of}
use Rattle.client_state.specs.declared.state.State.{State}
use Rattle.link_lines.specs.Line.{line_of}
use Rattle.link_asks.specs.Reasons.{no_end_text, reason_text_of}
use Rattle.link_asks.specs.Views.{shown_view_of, view_words}
use Rattle.link_asks.specs.declared.ask.Ask.{Ask}
use Rattle.link_asks.specs.declared.ask.Ask.TheVariants.{Status, Now, Beat, Phase, Time, Tempo, Play, Stop, Force, Request, Quantum, Watch, Unwatch, Clients, Gates, End}
use Rattle.link_asks.specs.declared.known.GateState.{GateState}
use Rattle.link_asks.specs.declared.known.GateState.TheVariants as gate
use Rattle.link_asks.specs.declared.known.GateTold.{GateTold}
use Rattle.link_asks.specs.declared.known.Known.{Known}
use Rattle.link_asks.specs.declared.reason.Reason.{Reason}
use Rattle.link_asks.specs.declared.view.View.{View}

-- what an answer is made of: the number of the published state and what is shown of it, the moment of the line, the number of its commit,
-- how many clients there are, how the gates stand, and whether a client may end the serving
pub record Facts : Type 0 where
  pub published : ℕ
  pub shown : State
  pub at : ℤ
  pub number : ℕ
  pub clients : ℕ
  pub gates : List GateTold
  pub may_end : Bool

abbrev pub facts_of : Known → Facts
facts_of known = record {
  published = known.published;
  shown = known.shown;
  at = known.at;
  number = known.number;
  clients = known.clients;
  gates = known.gates.now;
  may_end = known.may_end;
}

-- ---- beats

-- Rule: A session server counts beats from the beat origin, as Link programs count bars.
-- the beat at a time, counted from the beat origin
unfoldable pub since_origin : Timeline → ℤ → ℤ
since_origin tl time = beat_at tl time -ℤ tl.beat

-- the time of a beat that is counted so
unfoldable pub time_since_origin : Timeline → ℤ → ℤ
time_since_origin tl beat = time_at tl (clipped_of (tl.beat +ℤ beat))

-- the phase of the beat at a time in the quantum
unfoldable pub phase_since_origin : State → ℤ → ℤ
phase_since_origin shown time = phase_of (since_origin shown.timeline time) shown.quantum

-- ---- answers

unfoldable pub ok_text : List ℕ
ok_text = line_of (codes "ok" ∷ [])

unfoldable pub ok_text_of : ℕ → List ℕ
ok_text_of number = line_of (codes "ok" ∷ decimal number ∷ [])

unfoldable pub bad_text_of : List ℕ → List ℕ
bad_text_of reason = line_of (codes "bad" ∷ reason ∷ [])

unfoldable pub gate_state_text_of : GateState → List ℕ
gate_state_text_of gate.Bound = codes "bound"
gate_state_text_of gate.Unbound = codes "unbound"
gate_state_text_of gate.Failed = codes "failed"

-- of each gate how it stands, and how many of its datagrams the system refused
abbrev pub gate_words : List GateTold → List (List ℕ)
gate_words [] = []
gate_words (one ∷ gates) = gate_state_text_of one.state ∷ decimal one.refused ∷ gate_words gates

-- Rule: A client of a session server is answered by what it asks for: the state, times, beats, phases, clients or gates, `ok` with the
-- number of its commit, `ok` alone, or `bad` with what is wrong.
unfoldable pub answer_to : Option Ask → Reason → Facts → List ℕ
answer_to None reason known = bad_text_of (reason_text_of reason)
answer_to (Some Status) reason known = line_of (codes "status" ∷ view_words (shown_view_of known.shown) known.published)
answer_to (Some Now) reason known =
    line_of (
    codes "now" ∷ signed_decimal known.at ∷ signed_decimal (since_origin known.shown.timeline known.at)
    ∷ signed_decimal (phase_since_origin known.shown known.at) ∷ []
    )
answer_to (Some (Beat time)) reason known = line_of (codes "beat" ∷ signed_decimal (since_origin known.shown.timeline time) ∷ [])
answer_to (Some (Phase time)) reason known = line_of (codes "phase" ∷ signed_decimal (phase_since_origin known.shown time) ∷ [])
answer_to (Some (Time beat)) reason known = line_of (codes "time" ∷ signed_decimal (time_since_origin known.shown.timeline beat) ∷ [])
answer_to (Some (Tempo mpb)) reason known = ok_text_of known.number
answer_to (Some (Play at)) reason known = ok_text_of known.number
answer_to (Some (Stop at)) reason known = ok_text_of known.number
answer_to (Some (Force beat at)) reason known = ok_text_of known.number
answer_to (Some (Request beat at)) reason known = ok_text_of known.number
answer_to (Some (Quantum quantum)) reason known = ok_text_of known.number
answer_to (Some Watch) reason known = ok_text
answer_to (Some Unwatch) reason known = ok_text
answer_to (Some Clients) reason known = line_of (codes "clients" ∷ decimal known.clients ∷ [])
answer_to (Some Gates) reason known = line_of (codes "gates" ∷ decimal (length known.gates) ∷ gate_words known.gates)
answer_to (Some End) reason known = if known.may_end then ok_text else bad_text_of no_end_text

-- Rule: A client that watches is told what is shown in a line `changed` with the words of `status`.
unfoldable pub changed_text_of : View → ℕ → List ℕ
changed_text_of view published = line_of (codes "changed" ∷ view_words view published)
