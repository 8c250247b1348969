use Rattle.std.proofs.Common.{◌≤◌, ◌∙◌, ap, arith}
use Rattle.link_script.specs.ReplayScript.{ended}
use Rattle.link_text.proofs.WrittenHeadLemmas.{destination_there}
use Rattle.link_text.proofs.head_line.write_gate.Goals as goal

pub returns : goal.returns
returns c l e =
    let some : 1 ≤ c.args.at = omega arith in
    c.write_destination.ensures
    ∙ ap ended (destination_there c.args.gate.now c.deref.result.now c.args.at (record { addr = 0; port = 0 }) l c.deref.ensures.0 some c.requires e)
