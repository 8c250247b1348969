use Rattle.std.proofs.Common.{codes, refl}
use Rattle.std.proofs.lemmas.Result.{IfOk-weaker}
use Rattle.link_words.proofs.ValueWordLemmas.{whole_command}
use Rattle.link_words.proofs.midi_words.midi_command.Goals as goal

pub returns : goal.returns
returns c =
    let length_parser = c.within.ensures 1 1_000_000 refl refl in
    let blocks_parser = c.within-2.ensures 0 524_288 refl refl in
    IfOk-weaker c.arg-2.result _ _ (λ end added.
    whole_command (codes "midi") (codes "LENGTH") 1 1_000_000 (codes "BLOCKS") 0 524_288
    c.in_ok-bare.field-0 _ end c.number.result c.number-2.result c.in_ok-bare.ensures c.in_ok-arg.ensures added
    (c.number.ensures.rule 1 1_000_000 length_parser) (c.number.ensures.kept 1 1_000_000 length_parser)
    (c.number-2.ensures.rule 0 524_288 blocks_parser) (c.number-2.ensures.kept 0 524_288 blocks_parser)) c.arg-2.ensures
