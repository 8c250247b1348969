-- What the audio thread's pass keeps through a read and a commit.
use Rattle.std.proofs.Common.{◌≡◌, ℕ, ◌+◌, ◌-◌, ◌<◌, ◌≤◌, List, [], ◌∷◌, ◌++◌, length, map, drop, Option, Some, slice_get, refl, sym, ap, subst, ◌∙◌, arith, length-append}
use Rattle.std.proofs.lemmas.List.{length-map}
use Rattle.std.proofs.lemmas.List.{map_push}
use mathlib.Core.Option.{some}
use lib.ListN.{get_elem?}
use Rattle.audio_handoff.specs.Cell.{Pair, ReaderView, NumbersNeverFall, IsOneRead}
use Rattle.client_state.specs.Shown.{shown_over}
use Rattle.client_state.specs.Words.{state_of_words, commit_of_words}
use Rattle.client_state.specs.declared.commit.Commit.{Commit}
use Rattle.client_state.specs.declared.state.State.{State}
use Rattle.link_shared.specs.Audio.{AudioView, last_of, HasReadAudio}
use Rattle.link_shared.specs.Desk.{RestsAsReader}
use Rattle.link_shared.proofs.DeskLemmas.{rests_after_read}

pub has_read_audio : (before after : ReaderView) (view : AudioView) (made : List Commit) (own : Option (ℕ × Commit)) (number : ℕ) (row : List ℕ) (state shown : State)
    → RestsAsReader before → IsOneRead before after number row → after.number ≡ number → before.number ≤ number
    → state ≡ state_of_words row → shown ≡ shown_over own state.audio state → own ≡ last_of made
    → record { seen = before.seen; looks = before.looks; made = made } ≡ view
    → HasReadAudio view record { seen = after.seen; looks = after.looks; made = made } number state shown
has_read_audio before after view made own number row state shown rests read number_is later state_is shown_is own_is view_is =
    subst (λ (v : AudioView). HasReadAudio v record { seen = after.seen; looks = after.looks; made = made } number state shown) view_is record {
      row = row;
      seen = read.seen;
      look = read.look;
      looks = read.looks;
      look_is_not_older = λ k pair at. let older = rests.1 k pair at in let newer = read.look_is_not_before_last in omega arith;
      look_was_answered = read.look_was_answered;
      never_falls = (rests_after_read before after number row rests read number_is later).0;
      state_is = state_is;
      shown_is = shown_is ∙ ap (λ (last : Option (ℕ × Commit)). shown_over last state.audio state) own_is;
      commits_stay = refl;
    }

at_end : (commits : List Commit) (commit : Commit) → slice_get (commits ++ commit ∷ []) (length commits) ≡ Some commit
at_end [] commit = refl
at_end (c ∷ cs) commit = at_end cs commit

last_pushed : (commits : List Commit) (commit : Commit) → last_of (commits ++ commit ∷ []) ≡ Some (length commits + 1, commit)
last_pushed commits commit =
    let more : length (commits ++ commit ∷ []) ≡ length commits + 1 = length-append commits (commit ∷ []) in
    let at : length (commits ++ commit ∷ []) - 1 ≡ length commits = omega arith in
    rw (at, at_end commits commit, more)

pub last_made : (made : List (List ℕ)) (row : List ℕ) (commit : Commit) (number : ℕ) → 0 < length made → commit_of_words row ≡ commit → number ≡ length made
    → Some (number, commit) ≡ last_of (map commit_of_words (drop 1 (made ++ row ∷ [])))
last_made [] row commit number begun commit_is number_is = absurd (omega arith)
last_made (first ∷ rest) row commit number begun commit_is number_is =
    let same_length = length-map rest commit_of_words in
    let count : length (map commit_of_words rest) + 1 ≡ number = omega arith in
    let numbered : Some (length (map commit_of_words rest) + 1, commit_of_words row) ≡ Some (number, commit) = λ i. Some (count i, commit_is i) in
    sym (ap last_of (map_push commit_of_words rest row) ∙ last_pushed (map commit_of_words rest) (commit_of_words row) ∙ numbered)
