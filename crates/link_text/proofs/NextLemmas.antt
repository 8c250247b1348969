-- The next event of a text.
use Rattle.std.proofs.Common.{◌≡◌, refl, ◌∙◌, ap, subst, arith, ℕ, ◌≤◌, List, [], ◌∷◌, ◌++◌, length, drop}
use Rattle.link_node.specs.Event.{EventValue, Rx, Tick, App, Audio, End, audio_after}
use Rattle.link_lines.specs.Lines.{lines_of, counting_in}
use Rattle.link_text.specs.declared.place.Place.{Place}
use Rattle.link_text.specs.Places.{HasPassed, counting_from}
use Rattle.link_script.specs.ReplayScript.{IsEventKind, IsEventLine, AreEventLines, IsBehindLine, IsNextEvent, SaysFrom, SaysSome}
use Rattle.link_text.proofs.PlaceLemmas.{counting_same, counting_counted, counting_end}
use Rattle.link_text.proofs.EventUniqueLemmas.{event_one}

pub no_lines : (gates audio : ℕ) (lines : List (List ℕ)) (es : List EventValue) → lines ≡ [] → AreEventLines gates audio lines es → es ≡ []
no_lines gates audio [] [] none are = refl
no_lines gates audio [] (e ∷ es) none are = absurd are
no_lines gates audio (line ∷ lines) es none are = cc

-- the events behind the first
first_event : (gates audio : ℕ) (lines : List (List ℕ)) (line : List ℕ) (rest : List (List ℕ)) (es : List EventValue) → lines ≡ line ∷ rest
    → AreEventLines gates audio lines es
    → (e : EventValue) × (fs : List EventValue) × (es ≡ e ∷ fs) × IsEventLine gates audio line e × AreEventLines gates (audio_after audio e) rest fs
first_event gates audio lines line rest es is are = of_cons es (subst (λ (ls : List (List ℕ)). AreEventLines gates audio ls es) is are)
  where
    of_cons : (es : List EventValue) → AreEventLines gates audio (line ∷ rest) es
        → (e : EventValue) × (fs : List EventValue) × (es ≡ e ∷ fs) × IsEventLine gates audio line e × AreEventLines gates (audio_after audio e) rest fs
    of_cons [] are = absurd are
    of_cons (e ∷ fs) are = (e, fs, refl, are.0, are.1)

-- the widest ranges
kind_wide : (gates audio : ℕ) (e : EventValue) → gates ≤ 4 → IsEventKind gates audio e → IsEventKind 4 0 e
kind_wide gates audio (Rx gate from bytes now) few (low, from_is, are, short) = (omega arith, from_is, are, short)
kind_wide gates audio (Tick now) few kind = tt
kind_wide gates audio (App commit now) few kind = kind
kind_wide gates audio (Audio number commit now) few (tidy, more, small) = (tidy, omega arith, small)
kind_wide gates audio (End now) few kind = tt

line_wide : (gates audio : ℕ) (line : List ℕ) (e : EventValue) → gates ≤ 4 → IsEventLine gates audio line e → IsEventLine 4 0 line e
line_wide gates audio line e few says = record {
  moment = says.moment;
  kind = kind_wide gates audio e few says.kind;
  hex = says.hex;
  hex_is = says.hex_is;
  said = says.said;
}

-- the line at which the next event stands
pub here_lines : (text line : List ℕ) (start place : Place) (next : ℕ) → HasPassed text start place
    → lines_of (drop place.at text) ≡ line ∷ lines_of (drop next text) → counting_from text start.at ≡ line ∷ counting_from text next
here_lines text line start place next has lines =
    counting_same text start place has.walked ∙ ap counting_in lines
    ∙ counting_counted line (lines_of (drop next text)) (has.stops line (lines_of (drop next text)) lines)

-- behind that line
pub behind_line : (text line : List ℕ) (start place : Place) (next : ℕ) → HasPassed text start place
    → lines_of (drop place.at text) ≡ line ∷ lines_of (drop next text) → next ≤ length text → IsBehindLine text start.at next
behind_line text line start place next has lines within = record {
  passed = has.walked.passed;
  line = line;
  lines = has.walked.lines ∙ ap (λ (ls : List (List ℕ)). has.walked.passed ++ ls) lines;
  none = has.walked.none;
  counts = has.stops line (lines_of (drop next text)) lines;
  within = within;
}

pub next_end : (text : List ℕ) (start place : Place) → HasPassed text start place → length text ≤ place.at
    → (gates audio : ℕ) (es : List EventValue) → SaysFrom gates audio text start.at es → es ≡ []
next_end text start place has all gates audio es says =
    no_lines gates audio (counting_from text start.at) es (counting_same text start place has.walked ∙ counting_end text place.at all) says.lines

pub next_bad : (text line : List ℕ) (at next : ℕ) → counting_from text at ≡ line ∷ counting_from text next
    → ((e : EventValue) → IsEventLine 4 0 line e → ⊥) → SaysSome text at → ⊥
next_bad text line at next is none (gates, audio, es, says) =
    let first = first_event gates audio (counting_from text at) line (counting_from text next) es is says.lines in
    none first.0 (line_wide gates audio line first.0 says.few first.3)

pub next_some : (text line : List ℕ) (at next : ℕ) (e : EventValue) → counting_from text at ≡ line ∷ counting_from text next → next ≤ length text
    → IsEventLine 4 0 line e → IsNextEvent text at next e
next_some text line at next e is within says = λ gates audio es all.
    let first = first_event gates audio (counting_from text at) line (counting_from text next) es is all.lines in
    let one = event_one gates 4 audio 0 line first.0 e (omega (arith, all.few)) (omega arith) first.3 says in (
      first.1,
      first.2 ∙ ap (λ (x : EventValue). x ∷ first.1) one,
      record {
        few = all.few;
        within = within;
        lines = subst (λ (x : EventValue). AreEventLines gates (audio_after audio x) (counting_from text next) first.1) one first.4;
      },
    )
