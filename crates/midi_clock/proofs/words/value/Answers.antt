use Rattle.std.proofs.Common.{◌≡◌, ◌∷◌, [], ◌+◌, map, drop, get_or, refl, ap, sym, ◌∙◌, arith, rules}
use Rattle.std.specs.String.{string_bytes}
use Rattle.std.proofs.lemmas.List.{drop-drop}
use Rattle.midi_clock.specs.Words.{values_of}
use Rattle.midi_clock.proofs.WordLemmas.{Counts, counts_all, counts_here, counts_more, counts_same, from_word, no_word, values_behind, values_past, values_with, word_behind}
use Rattle.midi_clock.proofs.words.value.Goals as goal
use Rattle.midi_clock.proofs.words.value.Goals.{then-eq+else-left-eq0, else-eq+then-is_option, else-eq+else-is_option, After-as_str-word}

-- what is left begins with the word
next : (c : After-as_str-word) → drop c.loop-at.at (map string_bytes c.args.words.now) ≡ c.as_str-word.result.now ∷ drop (c.loop-at.at + 1) (map string_bytes c.args.words.now)
next c = from_word c.args.words.now c.loop-at.at c.index-words-at.result c.as_str-word.result.now c.loop-at-test.true c.index-words-at.is c.as_str-word.ensures.value

pub loop-at-preserved : goal.loop-at-preserved
loop-at-preserved c =
    let name = c.args.name.now in
    let words = map string_bytes c.args.words.now in
    let at = c.loop-at.at in
    let n = next (goal.at.loop-at-preserved c).After-as_str-word in
    elim c.if-eq.branch as (λ _. Counts (values_of name words) (values_of name (drop (c.if-eq.at + 1) words)) c.args.number c.if-eq.left) [
      | then-eq+else-left-eq0 w ↦
          rw (w.at-is, w.left-is)
          (counts_more _ _ _ _ _ _ _ c.loop-at.invariant
          (values_with name _ (get_or (drop (at + 1) words) 0 []) words at n c.requires (sym c.eq.ensures ∙ w.if-eq.true) refl)
          (omega (arith, w.if-left-eq0.false)))
      | else-eq+then-is_option w ↦
          rw (w.at-is, w.left-is)
          (counts_same _ _ _ _ _ c.loop-at.invariant
          (ap (values_of name) n ∙ values_behind name _ _ (sym c.eq.ensures ∙ w.if-eq.false) (sym w.is_option.ensures ∙ w.if-is_option.true)
          ∙ ap (values_of name) (drop-drop 1 (at + 1) words)))
      | else-eq+else-is_option w ↦
          rw (w.at-is, w.left-is)
          (counts_same _ _ _ _ _ c.loop-at.invariant
          (ap (values_of name) n ∙ values_past name _ _ (sym c.eq.ensures ∙ w.if-eq.false) (sym w.is_option.ensures ∙ w.if-is_option.false)))
    ]

pub returns-then-left-eq0-clause-some : goal.returns-then-left-eq0-clause-some
returns-then-left-eq0-clause-some c =
    counts_here _ _ _ _ _ _ c.loop-at.invariant
    (values_with c.args.name.now _ c.map_or.result.now (map string_bytes c.args.words.now) c.loop-at.at
    (next (goal.at.returns-then-left-eq0-clause-some c).After-as_str-word) c.requires (sym c.eq.ensures ∙ c.if-eq.true)
    (word_behind c.args.words.now (c.loop-at.at + 1) c.get.result c.map_or.result.now c.get.ensures.lookup (search rules))) c.if-left-eq0.true

pub returns-clause-none : goal.returns-clause-none
unfolding values_of
returns-clause-none c =
    counts_all _ _ _ _ c.loop-at.invariant (ap (values_of c.args.name.now) (no_word c.args.words.now c.loop-at.at c.loop-at-test.false))
