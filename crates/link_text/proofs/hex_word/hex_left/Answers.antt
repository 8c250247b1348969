use Rattle.std.proofs.Common.{arith, sym, ◌∙◌, subst, ℕ, ◌-◌, ◌<◌, List, length, take, drop}
use Rattle.std.proofs.lemmas.Bool.{eqb-false}
use Rattle.link_script.specs.ReplayScript.{IsHexOf}
use Rattle.link_text.proofs.HexWordLemmas.{only_hex, only_word, words_behind}
use Rattle.link_text.proofs.hex_word.hex_left.Goals as goal

pub returns-then-not-is_hex_word-clause-none : goal.returns-then-not-is_hex_word-clause-none
returns-then-not-is_hex_word-clause-none c = λ bytes hex short is e.
    let left = c.args.left.now in
    let none = eqb-false (length left) 0 (sym c.is_empty.ensures ∙ c.if-is_empty.false) in
    let some : 0 < length left = omega (arith, none) in
    let word = take (length left - 1) (drop 1 left) in
    let same = only_word word hex (sym (words_behind left some) ∙ e) in
    c.if-not-is_hex_word.ensures.bad bytes short (subst (λ (xs : List ℕ). IsHexOf xs bytes) (sym same) is)

pub returns-clause-some : goal.returns-clause-some
returns-clause-some c =
    let left = c.args.left.now in
    let none = eqb-false (length left) 0 (sym c.is_empty.ensures ∙ c.if-is_empty.false) in
    let some : 0 < length left = omega (arith, none) in
    (c.if-not-is_hex_word.ensures.good, words_behind left some ∙ only_hex (take (length left - 1) (drop 1 left)) c.if-not-is_hex_word.ensures.good)
