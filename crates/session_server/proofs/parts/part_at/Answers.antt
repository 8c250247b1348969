use Rattle.std.proofs.Common.{map, sym, ◌∙◌, rules}
use Rattle.std.specs.String.{string_bytes}
use Rattle.session_server.proofs.WordLemmas.{flag_next, from_word, option_next, place_next, word_behind}
use Rattle.session_server.proofs.parts.part_at.Goals as goal

pub returns-then-takes_value-clause-part : goal.returns-then-takes_value-clause-part
returns-then-takes_value-clause-part c =
    option_next (map string_bytes c.args.words.now) c.args.at _ _ (from_word c.args.words.now c.args.at c.index-words-at.result _ c.requires c.index-words-at.is c.as_str-word.ensures.value)
    (sym c.takes_value.ensures ∙ c.if-takes_value.true)
    (word_behind c.args.words.now _ c.get.result c.map_or.result.now c.get.ensures.lookup (search rules))

pub returns-then-is_flag-clause-part : goal.returns-then-is_flag-clause-part
returns-then-is_flag-clause-part c =
    flag_next (map string_bytes c.args.words.now) c.args.at _ (from_word c.args.words.now c.args.at c.index-words-at.result _ c.requires c.index-words-at.is c.as_str-word.ensures.value)
    (sym c.takes_value.ensures ∙ c.if-takes_value.false) (sym c.is_flag.ensures ∙ c.if-is_flag.true)

pub returns-clause-part : goal.returns-clause-part
returns-clause-part c =
    place_next (map string_bytes c.args.words.now) c.args.at _ (from_word c.args.words.now c.args.at c.index-words-at.result _ c.requires c.index-words-at.is c.as_str-word.ensures.value)
    (sym c.takes_value.ensures ∙ c.if-takes_value.false) (sym c.is_flag.ensures ∙ c.if-is_flag.false)
