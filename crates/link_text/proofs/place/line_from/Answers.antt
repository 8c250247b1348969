use Rattle.std.proofs.Common.{refl, ◌+◌}
use Rattle.link_text.proofs.PlaceLemmas.{ahead_next, line_next}
use Rattle.link_text.proofs.place.line_from.Goals as goal

pub returns-clause-ahead : goal.returns-clause-ahead
returns-clause-ahead c =
    ahead_next c.args.text.now c.line_at-next.result.0.now c.args.place (record { at = c.line_at-next.result.1; number = c.args.place.number + 1 }) c.pass.result
    c.requires.ahead c.line_at-next.ensures.lines refl c.pass.ensures

pub returns-clause-line : goal.returns-clause-line
returns-clause-line c =
    line_next c.args.text.now c.line_at-next.result.0.now c.args.place (record { at = c.line_at-next.result.1; number = c.args.place.number + 1 }) c.pass.result
    c.requires.ahead c.line_at-next.ensures.lines c.line_at-next.ensures.further c.pass.ensures
