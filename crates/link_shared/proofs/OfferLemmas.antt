-- The offer of a commit.
use Rattle.std.proofs.Common.{◌≡◌, ℕ, ℤ, ◌<◌, ◌≤◌, Bool, true, false, List, [], ◌∷◌, ◌++◌, length, sym, ap, ◌∙◌, subst, ⊎_elim, append-nil, arith, nat_lt}
use Rattle.std.proofs.lemmas.Bool.Decides.{nat_tests}
use Rattle.std.proofs.Props.{props}
use mathlib.Core.Logic.{∥∥₁_elim}
use Rattle.audio_handoff.specs.Cell.{Pair}
use Rattle.client_state.specs.Words.{commit_of_words}
use Rattle.link_node.specs.Event.{EventValue, Audio, SendingValue}
use Rattle.link_node.specs.Machine.{Machine}
use Rattle.link_node.specs.Runs.{machine_after}
use Rattle.link_node.specs.Standing.{StandsFor, audio_of}
use Rattle.link_node.specs.Step.{sends_of}
use Rattle.link_node.specs.declared.node.Node.{Node}
use Rattle.link_shared.specs.Hub.{read_events}
use Rattle.link_shared.specs.Journal.{IsOffered}
use Rattle.link_shared.proofs.JournalLemmas.{offered_none, taken_or_refused, WasTaken, WasRefused}

-- an event that sends nothing leaves what was to be sent
pub quiet : (opening : Machine) (most : ℕ) (e : EventValue) (before after : List EventValue) (unsent sent : List SendingValue) (full : Bool)
    → IsOffered opening most (e ∷ []) before after unsent sent full → ((m : Machine) → sends_of m e ≡ []) → sent ≡ unsent
quiet opening most e before after unsent sent full offered nothing =
    ⊎_elim (λ (t : WasTaken opening e before after unsent sent full). t.sends ∙ ap (λ l. unsent ++ l) (nothing (machine_after opening before)) ∙ append-nil unsent)
    (λ (r : WasRefused most before after unsent sent full). r.sends)
    (taken_or_refused opening most e before after unsent sent full offered)

equal_numbers : (a b : ℕ) → IsProp (a ≡ b)
equal_numbers a b = hlevel props

-- the node counts the audio commits of the machine for which it stands
pub audio_stands : (node : Node) (m : Machine) → ∥ StandsFor node m ∥₁ → audio_of node ≡ m.audio
audio_stands node m stands = ∥∥₁_elim stands (equal_numbers (audio_of node) m.audio) (λ s. s.parts.audio)

-- a row that was read before offers nothing, and a later one its commit
pub read_before : (now : ℤ) (taken : ℕ) (pair : Pair) → pair.0 ≤ taken → read_events now taken pair ≡ []
read_before now taken pair old = let no : nat_lt taken pair.0 ≡ false = grind (arith, nat_tests) in rw no

pub read_later : (now : ℤ) (taken : ℕ) (pair : Pair) → taken < pair.0 → read_events now taken pair ≡ Audio pair.0 (commit_of_words pair.1) now ∷ []
read_later now taken pair new = let yes : nat_lt taken pair.0 ≡ true = grind (arith, nat_tests) in rw yes

pub no_read : (opening : Machine) (most : ℕ) (now : ℤ) (taken : ℕ) (pair : Pair) (journal : List EventValue) (sends : List SendingValue) → pair.0 ≤ taken → length journal ≤ most
    → IsOffered opening most (read_events now taken pair) journal journal sends sends false
no_read opening most now taken pair journal sends old fits =
    subst (λ (es : List EventValue). IsOffered opening most es journal journal sends sends false) (sym (read_before now taken pair old)) (offered_none opening most journal sends fits)

pub as_read : (opening : Machine) (most : ℕ) (now : ℤ) (taken : ℕ) (pair : Pair) (e : EventValue) (before after : List EventValue) (unsent sent : List SendingValue) (full : Bool)
    → taken < pair.0 → IsOffered opening most (e ∷ []) before after unsent sent full → e ≡ Audio pair.0 (commit_of_words pair.1) now
    → IsOffered opening most (read_events now taken pair) before after unsent sent full
as_read opening most now taken pair e before after unsent sent full new offered is =
    subst (λ (es : List EventValue). IsOffered opening most es before after unsent sent full) (ap (λ d. d ∷ []) is ∙ sym (read_later now taken pair new)) offered

-- an event is offered as any that it equals
pub offered_as_well : (opening : Machine) (most : ℕ) (e f : EventValue) (before after : List EventValue) (unsent sent : List SendingValue) (full : Bool)
    → e ≡ f → IsOffered opening most (e ∷ []) before after unsent sent full → IsOffered opening most (f ∷ []) before after unsent sent full
offered_as_well opening most e f before after unsent sent full same offered =
    subst (λ (d : EventValue). IsOffered opening most (d ∷ []) before after unsent sent full) same offered

-- the count that the node tells is the machine's
pub audio_told : (node : Node) (m : Machine) → ∥ StandsFor node m ∥₁ → (count : ℕ) → ((m : Machine) → StandsFor node m → count ≡ audio_of node) → count ≡ m.audio
audio_told node m stands count told = ∥∥₁_elim stands (equal_numbers count m.audio) (λ s. told m s ∙ s.parts.audio)
