-- The answers to a client's lines.
use Rattle.std.specs.Prelude.{ℕ, List, [], ◌∷◌, ◌++◌, codes, Option, Some, None}
use Rattle.std.specs.Fmt.{decimal, signed_decimal}
use Rattle.client_state.specs.declared.state.State.{State}
use Rattle.timeline_math.specs.Beats.{beat_at, time_at}
use Rattle.link_lines.specs.Line.{line_of}
use Rattle.link_lines.specs.Words.{truth_text_of}
use Rattle.link_text.specs.declared.control_line.ControlLine.{ControlLine}
use Rattle.link_text.specs.declared.control_line.ControlLine.TheVariants.{Status, Tempo, Play, Stop, Beat, Time}
use Rattle.link_control.specs.Log.{Answered}
use Rattle.link_control.specs.declared.log.LineLog.{LineLog}

-- Rule: `status` is answered by the tempo, beat origin, time origin, playing as `1` or `0`, and the number of peers.
unfoldable pub status_text_of : State → List ℕ
status_text_of shown =
    line_of (
    codes "status" ∷ signed_decimal shown.timeline.mpb ∷ signed_decimal shown.timeline.beat ∷ signed_decimal shown.timeline.time
    ∷ truth_text_of shown.start.playing ∷ decimal shown.peers ∷ []
    )

-- Rule: `tempo`, `play` and `stop` are answered by `ok` and the number of the commit.
unfoldable pub ok_text_of : ℕ → List ℕ
ok_text_of number = line_of (codes "ok" ∷ decimal number ∷ [])

-- Rule: A line that asks for nothing that there is, so any line of more than 25 bytes (65 bytes, say), is answered by `bad` and makes no
-- commit.
unfoldable pub bad_text : List ℕ
bad_text = line_of (codes "bad" ∷ [])

-- Rule: `beat` is answered by the beat at the time asked for, and `time` by the time of the beat asked for.
-- what a line is answered that asks for this, where this state is shown and its commit has this number
unfoldable pub answer_of : Option ControlLine → ℕ → State → List ℕ
answer_of None number shown = bad_text
answer_of (Some Status) number shown = status_text_of shown
answer_of (Some (Tempo mpb)) number shown = ok_text_of number
answer_of (Some Play) number shown = ok_text_of number
answer_of (Some Stop) number shown = ok_text_of number
answer_of (Some (Beat time)) number shown = line_of (codes "beat" ∷ signed_decimal (beat_at shown.timeline time) ∷ [])
answer_of (Some (Time beat)) number shown = line_of (codes "time" ∷ signed_decimal (time_at shown.timeline beat) ∷ [])

-- the answers of lines and what was logged for each, in order
unfoldable pub answers_of : List Answered → List LineLog → List ℕ
answers_of [] log = []
answers_of (one ∷ answered) [] = []
answers_of (one ∷ answered) (entry ∷ log) = answer_of one.asked one.number entry.capture.shown ++ answers_of answered log
