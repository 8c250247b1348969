use Rattle.std.proofs.Common.{arith, ap}
use Rattle.link_text.specs.LiveParts.{lines_told}
use Rattle.link_lines.proofs.LineLemmas.{lines_end}
use Rattle.link_text.proofs.live_script.commands_in.Goals as goal

pub returns : goal.returns
returns c =
    let none = ap lines_told (lines_end c.args.text.now c.loop-at.at (omega (arith, c.loop-at-test.false))) in
    omega (arith, none, c.loop-at.invariant.told)
