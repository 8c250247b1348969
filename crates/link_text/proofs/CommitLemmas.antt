-- The words of a commit.
use Rattle.std.proofs.Common.{◌≡◌, refl, sym, ◌∙◌, ℕ, ℤ, List, [], ◌∷◌, ◌++◌, Option, Some, None, codes, arith}
use Rattle.std.specs.Fmt.{signed_decimal}
use Rattle.std.specs.Option.{ForSome}
use Rattle.lk_base.specs.Ranges.{IsQuantum}
use Rattle.lk_base.specs.Timeline.{IsTidy}
use Rattle.lk_base.specs.declared.start.ClientStart.{ClientStart}
use Rattle.lk_base.specs.declared.timeline.Timeline.{Timeline}
use Rattle.client_state.specs.Commit.{IsTidyStart}
use Rattle.link_lines.specs.Words.{truth_text_of}
use Rattle.link_script.specs.ReplayScript.{timeline_words, start_words, quantum_words}

-- ---- each part begins with a letter of its own

letter_one : (b d : ℕ) (vs ws : List (List ℕ)) → (b ∷ []) ∷ vs ≡ (d ∷ []) ∷ ws → b ≡ d
letter_one b d vs ws same = cc same

-- a quantum doesn't begin as a start
pub no_s : (quantum : Option ℤ) (rest : List (List ℕ)) → quantum_words quantum ≡ codes "s" ∷ rest → ⊥
no_s None rest same = cc
no_s (Some quantum) rest same = omega (arith, letter_one 113 115 (signed_decimal quantum ∷ []) rest same)

-- and neither does begin as a timeline
pub no_t : (start : Option ClientStart) (quantum : Option ℤ) (rest : List (List ℕ)) → start_words start ++ quantum_words quantum ≡ codes "t" ∷ rest → ⊥
no_t None None rest same = cc
no_t None (Some quantum) rest same = omega (arith, letter_one 113 116 (signed_decimal quantum ∷ []) rest same)
no_t (Some start) quantum rest same =
    omega (arith, letter_one 115 116 (truth_text_of start.playing ∷ signed_decimal start.time ∷ signed_decimal start.stamp ∷ quantum_words quantum) rest same)

-- ---- what stands behind a part goes by the words

pub behind_timeline : (words rest more : List (List ℕ)) (tl : Timeline) (found : Option Timeline) (start : Option ClientStart) (quantum : Option ℤ)
    → words ≡ timeline_words (Some tl) ++ rest → words ≡ timeline_words found ++ more → more ≡ start_words start ++ quantum_words quantum → rest ≡ more
behind_timeline words rest more tl None start quantum is same later = absurd (no_t start quantum _ (sym later ∙ sym same ∙ is))
behind_timeline words rest more tl (Some found) start quantum is same later = cc (is, same)

pub behind_start : (words rest : List (List ℕ)) (start : ClientStart) (found : Option ClientStart) (quantum : Option ℤ)
    → words ≡ start_words (Some start) ++ rest → words ≡ start_words found ++ quantum_words quantum → rest ≡ quantum_words quantum
behind_start words rest start None quantum is same = absurd (no_s quantum _ (sym same ∙ is))
behind_start words rest start (Some found) quantum is same = cc (is, same)

-- ---- a letter that no part follows

pub no_timeline : (words rest : List (List ℕ)) (word : List ℕ) → words ≡ word ∷ rest → word ≡ codes "t"
    → ((tl : Timeline) (more : List (List ℕ)) → IsTidy tl → rest ≡ signed_decimal tl.mpb ∷ signed_decimal tl.beat ∷ signed_decimal tl.time ∷ more → ⊥)
    → (tl : Option Timeline) (start : Option ClientStart) (quantum : Option ℤ) → ForSome tl IsTidy
    → words ≡ timeline_words tl ++ (start_words start ++ quantum_words quantum) → ⊥
no_timeline words rest word is t none None start quantum tidy same = no_t start quantum rest (cc (is, t, same))
no_timeline words rest word is t none (Some tl) start quantum tidy same = none tl (start_words start ++ quantum_words quantum) (tidy tl refl) (cc (is, same))

pub no_start : (words rest : List (List ℕ)) (word : List ℕ) → words ≡ word ∷ rest → word ≡ codes "s"
    → ((start : ClientStart) (more : List (List ℕ)) → IsTidyStart start → rest ≡ truth_text_of start.playing ∷ signed_decimal start.time ∷ signed_decimal start.stamp ∷ more → ⊥)
    → (start : Option ClientStart) (quantum : Option ℤ) → ForSome start IsTidyStart → words ≡ start_words start ++ quantum_words quantum → ⊥
no_start words rest word is s none None quantum tidy same = no_s quantum rest (cc (is, s, same))
no_start words rest word is s none (Some start) quantum tidy same = none start (quantum_words quantum) (tidy start refl) (cc (is, same))

pub no_quantum : (words rest : List (List ℕ)) (word : List ℕ) → words ≡ word ∷ rest
    → ((quantum : ℤ) (more : List (List ℕ)) → IsQuantum quantum → rest ≡ signed_decimal quantum ∷ more → ⊥)
    → (quantum : Option ℤ) → ForSome quantum IsQuantum → words ≡ quantum_words quantum → ⊥
no_quantum words rest word is none None tidy same = cc
no_quantum words rest word is none (Some quantum) tidy same = none quantum [] (tidy quantum refl) (cc (is, same))
