-- Only for proofs: what is left of a commit's words behind its timeline and behind its start, of which each may be absent.
use Rattle.std.specs.Prelude.{◌≡◌, ℕ, ℤ, List, ◌++◌, Option}
use Rattle.lk_base.specs.declared.start.ClientStart.{ClientStart}
use Rattle.lk_base.specs.declared.timeline.Timeline.{Timeline}
use Rattle.link_script.specs.ReplayScript.{quantum_words, start_words, timeline_words}

-- where the words are those of a commit, the words of its start and of its quantum are left
abbrev pub LeavesStart : List (List ℕ) → List (List ℕ) → Type 0
LeavesStart words left =
    (tl : Option Timeline) (start : Option ClientStart) (quantum : Option ℤ)
    → words ≡ timeline_words tl ++ (start_words start ++ quantum_words quantum) → left ≡ start_words start ++ quantum_words quantum

-- where the words are those of a start and a quantum, the words of the quantum are left
abbrev pub LeavesQuantum : List (List ℕ) → List (List ℕ) → Type 0
LeavesQuantum words left =
    (start : Option ClientStart) (quantum : Option ℤ) → words ≡ start_words start ++ quantum_words quantum → left ≡ quantum_words quantum
