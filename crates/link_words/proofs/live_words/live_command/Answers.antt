use Rattle.std.proofs.Common.{◌^◌, codes, refl}
use Rattle.std.proofs.lemmas.Result.{IfOk-weaker}
use Rattle.link_words.proofs.CommandWordLemmas.{told_command}
use Rattle.link_words.proofs.LiveWordLemmas.{whole_command}
use Rattle.link_words.proofs.live_words.live_command.Goals as goal

pub returns : goal.returns
returns c =
    let blocks_parser = c.within.ensures 0 524_288 refl refl in
    let start = told_command (codes "live") c.in_ok-bare.field-0 c.override_usage.result _ c.override_usage.ensures c.in_ok-bare.ensures in
    IfOk-weaker c.arg-5.result _ _ (λ end added.
    whole_command c.override_usage.result _ _ _ _ end c.events.result c.option.result c.quantum.result c.group.result c.flag.result start
    c.in_ok-arg.ensures c.in_ok-arg-2.ensures c.in_ok-arg-3.ensures c.in_ok-arg-4.ensures added
    c.events.ensures.rule c.events.ensures.kept
    (c.option.ensures.rule 0 524_288 blocks_parser) (c.option.ensures.kept 0 524_288 blocks_parser)
    c.quantum.ensures.rule c.quantum.ensures.kept c.group.ensures.rule c.group.ensures.kept
    c.flag.ensures.rule c.flag.ensures.kept) c.arg-5.ensures
