use Rattle.std.proofs.Common.{codes}
use Rattle.std.proofs.lemmas.Result.{IfOk-weaker}
use Rattle.link_words.proofs.CommandWordLemmas.{told_command}
use Rattle.link_words.proofs.ControlWordLemmas.{whole_command}
use Rattle.link_words.proofs.control_words.control_command.Goals as goal

pub returns : goal.returns
returns c =
    let start = told_command (codes "control") c.in_ok-bare.field-0 c.override_usage.result _ c.override_usage.ensures c.in_ok-bare.ensures in
    IfOk-weaker c.arg-4.result _ _ (λ end added.
    whole_command c.override_usage.result _ _ _ end c.text.result c.events.result c.quantum.result c.group.result start
    c.in_ok-arg.ensures c.in_ok-arg-2.ensures c.in_ok-arg-3.ensures added
    c.text.ensures.rule c.text.ensures.kept c.events.ensures.rule c.events.ensures.kept
    c.quantum.ensures.rule c.quantum.ensures.kept c.group.ensures.rule c.group.ensures.kept) c.arg-4.ensures
