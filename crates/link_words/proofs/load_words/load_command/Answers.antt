use Rattle.std.proofs.Common.{◌-◌, ◌^◌, codes, refl}
use Rattle.std.proofs.lemmas.Result.{IfOk-weaker}
use Rattle.link_words.proofs.ValueWordLemmas.{whole_command}
use Rattle.link_words.proofs.load_words.load_command.Goals as goal

pub returns : goal.returns
returns c =
    let seed_parser = c.value_parser.ensures in
    let count_parser = c.within.ensures 1 524_288 refl refl in
    IfOk-weaker c.arg-2.result _ _ (λ end added.
    whole_command (codes "load") (codes "SEED") 0 (2 ^ 64 - 1) (codes "COUNT") 1 524_288
    c.in_ok-bare.field-0 _ end c.number.result c.number-2.result c.in_ok-bare.ensures c.in_ok-arg.ensures added
    (c.number.ensures.rule 0 (2 ^ 64 - 1) seed_parser) (c.number.ensures.kept 0 (2 ^ 64 - 1) seed_parser)
    (c.number-2.ensures.rule 1 524_288 count_parser) (c.number-2.ensures.kept 1 524_288 count_parser)) c.arg-2.ensures
