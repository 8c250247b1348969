-- The events of a script are no more than its bytes, and a node can take them.
use Rattle.std.proofs.Common.{◌≡◌, refl, arith, ℕ, suc, ◌+◌, ◌<◌, ◌≤◌, ◌^◌, ◌==◌, Bool, true, false, not, if◌then◌else◌, List, [], ◌∷◌, length, drop}
use Rattle.std.specs.List.{onto_first}
use Rattle.std.proofs.lemmas.List.{length-drop}
use Rattle.link_node.specs.Event.{EventValue, Rx, Tick, App, Audio, End, FitsKind, app_after, audio_after}
use Rattle.link_node.specs.Runs.{AreFitting}
use Rattle.link_lines.specs.Lines.{lines_of, is_passed, counting_in}
use Rattle.link_script.specs.ReplayScript.{IsEventKind, AreEventLines, SaysFrom}

kind_fits : (gates app audio : ℕ) (e : EventValue) → app < 2 ^ 60 → IsEventKind gates audio e → FitsKind gates app audio e
kind_fits gates app audio (Rx gate from bytes now) room kind = (kind.0, kind.2, kind.3)
kind_fits gates app audio (Tick now) room kind = tt
kind_fits gates app audio (App commit now) room kind = (kind, room)
kind_fits gates app audio (Audio number commit now) room kind = kind
kind_fits gates app audio (End now) room kind = tt

app_little : (app : ℕ) (e : EventValue) → app_after app e ≤ app + 1
app_little app (Rx gate from bytes now) = omega arith
app_little app (Tick now) = omega arith
app_little app (App commit now) = omega arith
app_little app (Audio number commit now) = omega arith
app_little app (End now) = omega arith

lines_fit : (gates app audio : ℕ) (lines : List (List ℕ)) (es : List EventValue) → AreEventLines gates audio lines es → app + length es < 2 ^ 60
    → AreFitting gates app audio es
lines_fit gates app audio lines [] are room = tt
lines_fit gates app audio [] (e ∷ es) are room = absurd are
lines_fit gates app audio (line ∷ lines) (e ∷ es) are room = (
  (are.0.moment, kind_fits gates app audio e (omega arith) are.0.kind),
  lines_fit gates (app_after app e) (audio_after audio e) lines es are.1 (omega (arith, app_little app e)),
)

pub says_fit : (gates audio app at : ℕ) (text : List ℕ) (es : List EventValue) → SaysFrom gates audio text at es
    → app + length es < 2 ^ 60 → AreFitting gates app audio es
says_fit gates audio app at text es says room = lines_fit gates app audio (counting_in (lines_of (drop at text))) es says.lines room

as_many : (gates audio : ℕ) (lines : List (List ℕ)) (es : List EventValue) → AreEventLines gates audio lines es → length es ≡ length lines
as_many gates audio [] [] are = refl
as_many gates audio [] (e ∷ es) are = absurd are
as_many gates audio (line ∷ lines) [] are = absurd are
as_many gates audio (line ∷ lines) (e ∷ es) are =
    let more = as_many gates (audio_after audio e) lines es are.1 in
    omega arith

counting_fewer : (lines : List (List ℕ)) → length (counting_in lines) ≤ length lines
counting_fewer [] = omega arith
counting_fewer (line ∷ lines) = by_test (is_passed line) line (counting_in lines) (length lines) (counting_fewer lines)
  where
    by_test : (t : Bool) (line : List ℕ) (rest : List (List ℕ)) (n : ℕ) → length rest ≤ n → length (if not t then line ∷ rest else rest) ≤ suc n
    by_test true line rest n less = omega arith
    by_test false line rest n less = omega arith

onto_little : (b : ℕ) (lines : List (List ℕ)) (n : ℕ) → length lines ≤ n → length (onto_first b lines) ≤ suc n
onto_little b [] n less = omega arith
onto_little b (line ∷ lines) n less = omega arith

lines_fewer : (text : List ℕ) → length (lines_of text) ≤ length text
unfolding lines_of
lines_fewer [] = omega arith
lines_fewer (b ∷ text) = by_test (b == 10) (lines_of text) (length text) (lines_fewer text)
  where
    by_test : (t : Bool) (rest : List (List ℕ)) (n : ℕ) → length rest ≤ n → length (if t then [] ∷ rest else onto_first b rest) ≤ suc n
    by_test true rest n less = omega arith
    by_test false rest n less = onto_little b rest n less

pub says_few : (gates audio at : ℕ) (text : List ℕ) (es : List EventValue) → SaysFrom gates audio text at es → length es ≤ length text
says_few gates audio at text es says =
    let lines = lines_of (drop at text) in
    omega (arith, as_many gates audio (counting_in lines) es says.lines, counting_fewer lines, lines_fewer (drop at text), length-drop at text)
