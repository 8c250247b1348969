use Rattle.std.proofs.Common.{◌≡◌, ◌∷◌, ◌+◌, map, drop, ap, sym, ◌∙◌, arith}
use Rattle.std.specs.String.{string_bytes}
use Rattle.std.proofs.lemmas.List.{drop-drop}
use Rattle.midi_clock.specs.Words.{places_of}
use Rattle.midi_clock.proofs.WordLemmas.{Counts, counts_all, counts_here, counts_more, counts_same, from_word, no_word, places_behind, places_more}
use Rattle.midi_clock.proofs.words.place.Goals as goal
use Rattle.midi_clock.proofs.words.place.Goals.{then-is_option, else-is_option+else-left-eq0, After-as_str-word}

-- what is left begins with the word
next : (c : After-as_str-word) → drop c.loop-at.at (map string_bytes c.args.words.now) ≡ c.as_str-word.result.now ∷ drop (c.loop-at.at + 1) (map string_bytes c.args.words.now)
next c = from_word c.args.words.now c.loop-at.at c.index-words-at.result c.as_str-word.result.now c.loop-at-test.true c.index-words-at.is c.as_str-word.ensures.value

pub loop-at-preserved : goal.loop-at-preserved
loop-at-preserved c =
    let words = map string_bytes c.args.words.now in
    let at = c.loop-at.at in
    let n = next (goal.at.loop-at-preserved c).After-as_str-word in
    elim c.if-is_option.branch as (λ _. Counts (places_of words) (places_of (drop (c.if-is_option.at + 1) words)) c.args.number c.if-is_option.left) [
      | then-is_option w ↦
          rw (w.at-is, w.left-is)
          (counts_same _ _ _ _ _ c.loop-at.invariant
          (ap places_of n ∙ places_behind _ _ (sym c.is_option.ensures ∙ w.if-is_option.true) ∙ ap places_of (drop-drop 1 (at + 1) words)))
      | else-is_option+else-left-eq0 w ↦
          rw (w.at-is, w.left-is)
          (counts_more _ _ _ _ _ _ _ c.loop-at.invariant
          (ap places_of n ∙ places_more _ _ (sym c.is_option.ensures ∙ w.if-is_option.false)) (omega (arith, w.if-left-eq0.false)))
    ]

pub returns-then-left-eq0-clause-some : goal.returns-then-left-eq0-clause-some
returns-then-left-eq0-clause-some c =
    counts_here _ _ _ _ _ _ c.loop-at.invariant
    (ap places_of (next (goal.at.returns-then-left-eq0-clause-some c).After-as_str-word) ∙ places_more _ _ (sym c.is_option.ensures ∙ c.if-is_option.false))
    c.if-left-eq0.true

pub returns-clause-none : goal.returns-clause-none
unfolding places_of
returns-clause-none c =
    counts_all _ _ _ _ c.loop-at.invariant (ap places_of (no_word c.args.words.now c.loop-at.at c.loop-at-test.false))
