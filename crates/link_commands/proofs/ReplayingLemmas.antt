-- A node that goes on with the events that a script says.
use Rattle.std.proofs.Common.{◌≡◌, ◌≤◌, ◌<◌, ◌+◌, ◌^◌, [], ◌∷◌, length, drop, List, ℕ, ℤ, refl, ap, sym, subst, arith}
use Rattle.link_node.specs.Config.{ConfigValue}
use Rattle.link_node.specs.Event.{EventValue, Rx, Tick, App, Audio, End, Fits, app_after, audio_after}
use Rattle.link_node.specs.Machine.{Machine}
use Rattle.link_node.specs.Opening.{opened}
use Rattle.link_node.specs.Runs.{AreFitting}
use Rattle.link_node.specs.Step.{step_of}
use Rattle.link_lines.specs.Lines.{lines_of, counting_in}
use Rattle.link_script.specs.ReplayScript.{AreEventLines, IsChecked, SaysFrom, SaysSome}
use Rattle.link_commands.specs.Replaying.{GoesOn, IsOpened}

-- ---- what the text says from a place on

event_lines : (gates audio : ℕ) (lines : List (List ℕ)) (es : List EventValue) → AreEventLines gates audio lines es → length lines ≡ length es
event_lines gates audio [] [] are = refl
event_lines gates audio [] (e ∷ es) are = absurd are
event_lines gates audio (line ∷ lines) [] are = absurd are
event_lines gates audio (line ∷ lines) (e ∷ es) are = omega (arith, event_lines gates (audio_after audio e) lines es are.1)

-- how many lines count there
abbrev pub left_at : List ℕ → ℕ → ℕ
left_at text at = length (counting_in (lines_of (drop at text)))

left_are : (gates audio : ℕ) (text : List ℕ) (at : ℕ) (es : List EventValue) → SaysFrom gates audio text at es → left_at text at ≡ length es
left_are gates audio text at es says = event_lines gates audio (counting_in (lines_of (drop at text))) es says.lines

-- the lines that count grow fewer with each event
pub fewer_left : (gates audio gates' audio' : ℕ) (text : List ℕ) (at next : ℕ) (es rest : List EventValue) (e : EventValue)
    → SaysFrom gates audio text at es → SaysFrom gates' audio' text next rest → es ≡ e ∷ rest → left_at text next < left_at text at
fewer_left gates audio gates' audio' text at next es rest e says behind is =
    omega (arith, left_are gates audio text at es says, left_are gates' audio' text next rest behind, ap length is)

-- what the laws say of the events that are left
abbrev pub AreTakable : Type 0
AreTakable = (gates audio app at : ℕ) (text : List ℕ) (es : List EventValue) → SaysFrom gates audio text at es
    → app + length es < 2 ^ 60 → AreFitting gates app audio es

abbrev pub AreFew : Type 0
AreFew = (gates audio at : ℕ) (text : List ℕ) (es : List EventValue) → SaysFrom gates audio text at es → length es ≤ length text

-- the event at the place is the first of those that the text says there, and after it the rest is said
abbrev pub IsNextEvent : List ℕ → ℕ → ℕ → EventValue → Type 0
IsNextEvent text at next e = (gates audio : ℕ) (es : List EventValue) → SaysFrom gates audio text at es
    → (rest : List EventValue) × (es ≡ e ∷ rest) × SaysFrom gates (audio_after audio e) text next rest

-- no event is said there
abbrev pub IsPastAll : List ℕ → ℕ → Type 0
IsPastAll text at = (gates audio : ℕ) (es : List EventValue) → SaysFrom gates audio text at es → es ≡ []

-- ---- a node at a place

-- some events are said there
pub goes_on_says : (Stands : Machine → Type 0) (gates app audio : ℕ) (text : List ℕ) (at : ℕ) (m : Machine) (es : List EventValue)
    → GoesOn Stands gates app audio text at m es → SaysSome text at
goes_on_says Stands gates app audio text at m es on = (gates, audio, es, on.says)

-- the node can take the next one
pub event_fits : (law : AreTakable) (Stands : Machine → Type 0) (gates app audio : ℕ) (text : List ℕ) (at next : ℕ) (m : Machine) (es : List EventValue) (e : EventValue)
    → GoesOn Stands gates app audio text at m es → IsNextEvent text at next e → Fits gates app audio e
event_fits law Stands gates app audio text at next m es e on is =
    let found = is gates audio es on.says in
    let all : AreFitting gates app audio (e ∷ found.0) = subst (AreFitting gates app audio) found.1 (law gates audio app at text es on.says on.few_commits) in
    all.0

pub app_rises : (app : ℕ) (e : EventValue) → app_after app e ≤ app + 1
app_rises app (Rx gate from bytes now) = omega arith
app_rises app (Tick now) = omega arith
app_rises app (App commit now) = omega arith
app_rises app (Audio number commit now) = omega arith
app_rises app (End now) = omega arith

-- and goes on behind it
pub goes_on_more : (Stands Stands' : Machine → Type 0) (gates app audio gates' app' audio' : ℕ) (text : List ℕ) (at next : ℕ) (m : Machine) (es rest : List EventValue) (e : EventValue)
    → GoesOn Stands gates app audio text at m es → es ≡ e ∷ rest → SaysFrom gates (audio_after audio e) text next rest
    → ((m : Machine) → Stands m → Stands' (step_of m e)) → gates' ≡ gates → app' ≡ app_after app e → audio' ≡ audio_after audio e
    → GoesOn Stands' gates' app' audio' text next (step_of m e) rest
goes_on_more Stands Stands' gates app audio gates' app' audio' text at next m es rest e on is says steps same_gates app_is audio_is = record {
  stands = steps m on.stands;
  says = rw (same_gates, audio_is) says;
  few_commits = omega (arith, on.few_commits, app_rises app e, app_is, ap length is);
}

-- ---- at the opening

-- the node of a script that was checked, opened at its moment
pub opened_by : (Stands : Machine → Type 0) (gates app audio version : ℕ) (text : List ℕ) (config : ConfigValue) (now at : ℤ) (first : ℕ)
    → IsChecked text version config now first → at ≡ now → Stands (opened config at) → gates ≡ length config.gates → app ≡ 0 → audio ≡ 0
    → (is : IsOpened Stands gates app audio version text first) × (is.now ≡ at)
opened_by Stands gates app audio version text config now at first checked same stands gates_are no_app no_audio = (
  record {
    config = config;
    now = now;
    es = checked.es;
    script = checked.script;
    stands = subst (λ (z : ℤ). Stands (opened config z)) same stands;
    says = rw (gates_are, no_audio) checked.from;
    no_commits = no_app;
  },
  sym same,
)

-- the node that was opened goes on with the events of the script
pub opened_goes_on : (few : AreFew) (Stands : Machine → Type 0) (gates app audio version : ℕ) (text : List ℕ) (first : ℕ) (is : IsOpened Stands gates app audio version text first)
    → length text ≤ 1_073_741_824 → GoesOn Stands gates app audio text first (opened is.config is.now) is.es
opened_goes_on few Stands gates app audio version text first is short = record {
  stands = is.stands;
  says = is.says;
  few_commits = omega (arith, is.no_commits, few gates audio first text is.es is.says);
}
