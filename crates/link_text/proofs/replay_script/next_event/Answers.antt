use Rattle.std.proofs.Common.{arith, subst, sym}
use Rattle.link_node.specs.Event.{EventValue, event_value}
use Rattle.link_script.specs.ReplayScript.{IsEventLine}
use Rattle.link_text.proofs.NextLemmas.{behind_line, here_lines, next_end, next_bad, next_some}
use Rattle.link_text.proofs.replay_script.next_event.Goals as goal

pub returns-then-place-text-clause-none : goal.returns-then-place-text-clause-none
returns-then-place-text-clause-none c =
    next_end c.args.text.now (record { at = c.args.at.now; number = 1 }) c.pass-place.result c.pass-place.ensures (omega (arith, c.if-place-text.true))

pub returns-in_default-clause-none : goal.returns-in_default-clause-none
returns-in_default-clause-none c = λ gates audio es says.
    absurd (next_bad c.args.text.now _ c.args.at.now c.line_at-next.result.1
    (here_lines c.args.text.now _ (record { at = c.args.at.now; number = 1 }) c.pass-place.result c.line_at-next.result.1 c.pass-place.ensures c.line_at-next.ensures.lines)
    c.in_default.ensures.none c.requires)

pub returns-clause-some : goal.returns-clause-some
returns-clause-some c =
    next_some c.args.text.now _ c.args.at.now c.line_at-next.result.1 (event_value c.event_of.result)
    (here_lines c.args.text.now _ (record { at = c.args.at.now; number = 1 }) c.pass-place.result c.line_at-next.result.1 c.pass-place.ensures c.line_at-next.ensures.lines)
    c.line_at-next.ensures.within
    (subst (λ (e : EventValue). IsEventLine 4 0 c.line_at-next.result.0.now e) (sym c.event_of.ensures) c.in-Some.ensures.some)

pub returns-clause-place : goal.returns-clause-place
returns-clause-place c =
    behind_line c.args.text.now _ (record { at = c.args.at.now; number = 1 }) c.pass-place.result c.line_at-next.result.1 c.pass-place.ensures c.line_at-next.ensures.lines
    c.line_at-next.ensures.within
