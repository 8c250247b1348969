use Rattle.std.proofs.Common.{◌∙◌, sym, w64, arith}
use Rattle.std.proofs.lemmas.Int.{ints, to_z-of_z}
use Rattle.std.proofs.lemmas.List.{length-map}
use Rattle.link_node.specs.Config.{config_value, gate_value}
use Rattle.link_commands.proofs.ReplayingLemmas.{opened_by}
use Rattle.link_commands.proofs.opened_script.open_script.Goals as goal

pub returns-clause-opened : goal.returns-clause-opened
returns-clause-opened c =
    opened_by _ _ _ _ c.in-Ok.head.version c.args.text.now (config_value c.in-Ok.head.config) c.in-Ok.head.now _ c.in-Ok.head.first
    c.in-Ok.ensures.script
    (to_z-of_z w64 c.in-Ok.head.now (omega (arith, ints, c.in-Ok.ensures.script.script.head.moment.0, c.in-Ok.ensures.script.script.head.moment.1)))
    c.in-Ok-new.ensures.stands (c.in-Ok-new.ensures.gates ∙ sym (length-map c.in-Ok.head.config.gates.items gate_value)) c.in-Ok-new.ensures.app c.in-Ok-new.ensures.audio
