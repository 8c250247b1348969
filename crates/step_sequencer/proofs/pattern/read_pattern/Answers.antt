use Rattle.std.proofs.Common.{length, sym}
use Rattle.std.proofs.lemmas.Bool.Decides.{Decides-eqb}
use Rattle.step_sequencer.proofs.PatternLemmas.{pattern_read, empty_is}
use Rattle.step_sequencer.proofs.pattern.read_pattern.Goals as goal

pub returns-clause-read : goal.returns-clause-read
returns-clause-read c =
    let first = c.in-Some.first in
    let second = c.in-Some-read_row.second in
    let third = c.in-Some-read_row-2.third in
    pattern_read c.args.text.now first.rest.now second.rest.now third.rest.now (record { kick = first.marks; snare = second.marks; hat = third.marks }) c.in-Some.ensures.some c.in-Some-read_row.ensures.some c.in-Some-read_row-2.ensures.some
    (empty_is third.rest.now ((Decides-eqb (length third.rest.now) 0).0 (sym c.if-not-is_empty.ensures)))
