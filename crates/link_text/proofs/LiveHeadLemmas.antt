-- Heads of live scripts: how a text goes on to one, and where it stops to be one, whether commands may follow or not.
use Rattle.std.proofs.Common.{◌≡◌, inl, inr, refl, sym, ◌∙◌, ap, subst, arith, ℤ, pos, ℕ, ◌-◌, ◌<◌, ◌≤◌, ◌^◌, Bool, false, List, [], ◌∷◌, ◌++◌, length}
use Rattle.std.proofs.lemmas.Int.{ints}
use Rattle.std.proofs.lemmas.List.{append-nil}
use Rattle.std.proofs.lemmas.List.Elements.{All-nil, All-push}
use Rattle.link_node.specs.Config.{GateValue}
use Rattle.link_lines.specs.Lines.{lines_of, counting_in}
use Rattle.link_text.specs.declared.place.Place.{Place}
use Rattle.link_text.specs.HeadParts.{AreFull, LacksGate}
use Rattle.link_text.specs.Places.{IsAhead, counting_from}
use Rattle.link_script.specs.ReplayScript.{IsGate, gate_line}
use Rattle.link_script.specs.LiveScript.{IsCommand, IsLiveHead, IsTempo, live_head_lines, live_version_line, setup_line}
use Rattle.link_text.specs.LiveHead.{IsHeadLineFault, IsHeadText, IsSomeHead}
use Rattle.link_text.specs.LiveParts.{IsLiveStart, IsStartFault}
use Rattle.link_text.proofs.PlaceLemmas.{counting_end, counting_some}
use Rattle.link_text.proofs.HeadLemmas.{full_events}
use Rattle.link_text.proofs.FirstFaultLemmas as faults
use Rattle.link_text.proofs.FirstFaultLemmas.{BeginAlike, IsCounted, line_fault}
use Rattle.link_text.proofs.ScriptLemmas.{full_alike, lacks_gate_alike, some_gate, some_gate_is, some_gate_lines}
use Rattle.link_text.proofs.LiveLemmas.{SaysLive, commands_lack, commands_no_to, fault_here, head_one, live_open}

-- ---- how lines go on to a head

-- the lines that count are those of a head, and there is no command
pub record SaysHead (lines : List (List ℕ)) : Type 0 where
  pub mpb : ℤ
  pub sync : Bool
  pub gates : List GateValue
  pub head : IsLiveHead mpb gates
  pub lines_are : lines ≡ live_head_lines mpb sync gates ++ []

head_counted : IsCounted IsSomeHead SaysHead
head_counted = record {
  says = λ lines (mpb, sync, gates, s). record { mpb = mpb; sync = sync; gates = gates; head = s.head; lines_are = s.said };
  is_text = λ lines s. (s.mpb, s.sync, s.gates, record { head = s.head; each = All-nil IsCommand; said = s.lines_are });
}

-- such lines are those of a live script too
says_live : (lines : List (List ℕ)) → SaysHead lines → SaysLive lines
says_live lines s =
    record { mpb = s.mpb; sync = s.sync; gates = s.gates; commands = []; head = s.head; each = All-nil IsCommand; lines_are = s.lines_are }

abbrev pub Starts : List (List ℕ) → Type 0
Starts said = faults.Starts SaysHead said

starts_live : (said : List (List ℕ)) → Starts said → faults.Starts SaysLive said
starts_live said starts = record { more = starts.more; goes = says_live (said ++ starts.more) starts.goes; counts = starts.counts }

head_fault : (text : List ℕ) (place : Place) (said : List (List ℕ)) → length text ≤ 2 ^ 32 - 2 → (ahead : IsAhead text place)
    → counting_in (lines_of text) ≡ said ++ counting_from text place.at → Starts said
    → ((more : List (List ℕ)) → BeginAlike (counting_from text place.at) more → SaysHead (said ++ more) → ⊥)
    → IsHeadLineFault text place.number
head_fault text place said short ahead is starts none =
    line_fault IsSomeHead SaysHead text place said head_counted short ahead is starts none

-- what no live script goes on with, no head does
pub start_fault : (text : List ℕ) (place : Place) (said : List (List ℕ)) → length text ≤ 2 ^ 32 - 2 → (ahead : IsAhead text place)
    → counting_in (lines_of text) ≡ said ++ counting_from text place.at → Starts said
    → ((more : List (List ℕ)) → BeginAlike (counting_from text place.at) more → SaysLive (said ++ more) → ⊥)
    → IsStartFault text place.number
start_fault text place said short ahead is starts none = record {
  live = fault_here text place said short ahead is (starts_live said starts) none;
  head = head_fault text place said short ahead is starts (λ more alike goes. none more alike (says_live (said ++ more) goes));
}

-- ---- lines of heads

some_tempo : IsTempo (pos 60_060)
some_tempo = record { fastest = omega (arith, ints); slowest = omega (arith, ints) }

-- a setup's line and a gate's
goes_on : (mpb : ℤ) (sync : Bool) (lines : List (List ℕ)) → IsTempo mpb
    → lines ≡ live_version_line ∷ setup_line mpb sync ∷ gate_line (record { addr = 0; port = 0 }) ∷ [] → SaysHead lines
goes_on mpb sync lines is are = record {
  mpb = mpb;
  sync = sync;
  gates = some_gate ∷ [];
  head = record { tempo = is; some_gate = omega arith; few_gates = omega arith; each = All-push IsGate [] some_gate (All-nil IsGate) some_gate_is };
  lines_are = are ∙ ap (λ (ls : List (List ℕ)). live_version_line ∷ setup_line mpb sync ∷ ls) (sym some_gate_lines)
      ∙ sym (live_open mpb sync (some_gate ∷ [])) ∙ sym (append-nil (live_head_lines mpb sync (some_gate ∷ [])));
}

pub starts_none : Starts []
starts_none = record {
  more = live_version_line ∷ setup_line (pos 60_060) false ∷ gate_line (record { addr = 0; port = 0 }) ∷ [];
  goes = goes_on (pos 60_060) false _ some_tempo refl;
  counts = refl;
}

pub starts_version : Starts (live_version_line ∷ [])
starts_version = record {
  more = setup_line (pos 60_060) false ∷ gate_line (record { addr = 0; port = 0 }) ∷ [];
  goes = goes_on (pos 60_060) false _ some_tempo refl;
  counts = refl;
}

pub starts_setup : (mpb : ℤ) (sync : Bool) → IsTempo mpb → Starts (live_version_line ∷ setup_line mpb sync ∷ [])
starts_setup mpb sync is = record {
  more = gate_line (record { addr = 0; port = 0 }) ∷ [];
  goes = goes_on mpb sync _ is refl;
  counts = refl;
}

starts_head : (mpb : ℤ) (sync : Bool) (gates : List GateValue) → IsLiveHead mpb gates → Starts (live_head_lines mpb sync gates)
starts_head mpb sync gates head = record {
  more = [];
  goes = record { mpb = mpb; sync = sync; gates = gates; head = head; lines_are = refl };
  counts = refl;
}

-- ---- behind the gates

-- a head with all its gates and destinations goes on with no line
no_more : (m : ℤ) (s : Bool) (gs : List GateValue) (lines : List (List ℕ)) (x : List ℕ) (xs : List (List ℕ)) → IsLiveHead m gs
    → AreFull gs lines → LacksGate (length gs) lines → lines ≡ x ∷ xs
    → (more : List (List ℕ)) → BeginAlike lines more → SaysHead (live_head_lines m s gs ++ more) → ⊥
no_more m s gs lines x xs is full lacks there more (inl (nothing, nor)) goes = differ (sym nothing ∙ there)
  where
    differ : [] ≡ x ∷ xs → ⊥
    differ h = cc
no_more m s gs lines x xs is full lacks there more (inr (y, zs, ys, first, second)) goes =
    let heads = head_one m goes.mpb s goes.sync gs goes.gates (y ∷ ys) [] is goes.head
    (full_alike gs y zs ys (subst (λ (ls : List (List ℕ)). AreFull gs ls) first full)) (full_events goes.gates [] (commands_no_to []))
    (lacks_gate_alike (length gs) y zs ys (subst (λ (ls : List (List ℕ)). LacksGate (length gs) ls) first lacks)) (commands_lack (length goes.gates) [])
    (ap (λ (ls : List (List ℕ)). live_head_lines m s gs ++ ls) (sym second) ∙ goes.lines_are) in
    differ heads.rest
  where
    differ : y ∷ ys ≡ [] → ⊥
    differ h = cc

pub line_behind : (text : List ℕ) (mpb : ℤ) (sync : Bool) (gates : List GateValue) (place : Place) → length text ≤ 2 ^ 32 - 2
    → IsLiveStart text mpb sync gates place → place.at < length text → IsHeadLineFault text place.number
line_behind text mpb sync gates place short start some =
    let there = counting_some text place start.ahead some in
    head_fault text place (live_head_lines mpb sync gates) short start.ahead start.said (starts_head mpb sync gates start.head)
    (no_more mpb sync gates (counting_from text place.at) there.0 there.1 start.head start.full start.lacks there.2)

pub whole : (text : List ℕ) (mpb : ℤ) (sync : Bool) (gates : List GateValue) (place : Place)
    → IsLiveStart text mpb sync gates place → length text ≤ place.at → IsHeadText text mpb sync gates
whole text mpb sync gates place start all = record {
  head = start.head;
  each = All-nil IsCommand;
  said = start.said ∙ ap (λ (ls : List (List ℕ)). live_head_lines mpb sync gates ++ ls) (counting_end text place.at all);
}
