use Rattle.std.proofs.Common.{◌≤◌, ◌-◌, ◌∙◌, ap, sym, arith, List, map}
use Rattle.std.specs.Prelude.{slice_get}
use Rattle.std.specs.List.{flat_map}
use Rattle.link_node.specs.Config.{gate_value}
use Rattle.link_node.specs.declared.config.GateSetup.{GateSetup}
use Rattle.link_script.specs.ReplayScript.{gate_lines, head_lines}
use Rattle.link_text.proofs.WrittenHeadLemmas.{slice_get_fifth}
use Rattle.link_text.proofs.head_line.write_head.Goals as goal

pub returns-clause-there : goal.returns-clause-there
unfolding head_lines
returns-clause-there c l e =
    let four : 4 ≤ c.args.k = omega arith in
    c.write_gates.ensures.there l
    (ap (λ (gs : List GateSetup). slice_get (flat_map gate_lines (map gate_value gs)) (c.args.k - 4)) c.deref.ensures.0 ∙ (sym (slice_get_fifth _ _ _ _ _ c.args.k four) ∙ e))
