use Rattle.std.proofs.Common.{pos, ◌+ℤ◌, FitsSigned, rules, arith}
use Rattle.std.proofs.lemmas.Int.{ints, to_z-of_z}
use mir.Syntax.{w64}
use Rattle.timeline_math.proofs.ClickLemmas.{next_beat-within}
use Rattle.timeline_math.proofs.MetronomeLemmas.{has_all, has_more, has_room, pushed_is}
use Rattle.timeline_math.proofs.metronome.next_click.Goals as goal

pub overflow_add-place : goal.overflow_add-place
overflow_add-place c =
    omega (arith, ints, next_beat-within c.args.tl.now c.args.place.now.beats c.args.place.now.from c.requires.tidy c.requires.so_far.next)

pub returns-in-None-clause-all : goal.returns-in-None-clause-all
returns-in-None-clause-all c =
    let place = c.args.place.now in
    let from : FitsSigned w64 place.from = search rules in
    let none = simp (to_z-of_z w64 _ from, to_z-of_z w64 _ c.ranges.end) at (c.in-None.ensures.none c.args.quantum) in
    has_all c.args.tl.now c.args.quantum c.args.start c.args.end place.beats place.from c.args.clicks.now.items c.requires.so_far none

pub returns-in-None-clause-few : goal.returns-in-None-clause-few
returns-in-None-clause-few c =
    let place = c.args.place.now in
    has_room c.args.tl.now c.args.quantum c.args.start c.args.end place.beats place.from c.args.clicks.now.items c.requires.length c.requires.so_far

pub returns-in-Some-clause-more : goal.returns-in-Some-clause-more
returns-in-Some-clause-more c =
    let tl = c.args.tl.now in
    let place = c.args.place.now in
    let items = c.args.clicks.now.items in
    let small = next_beat-within tl place.beats place.from c.requires.tidy c.requires.so_far.next in
    let beats : FitsSigned w64 place.beats = search rules in
    let from : FitsSigned w64 place.from = search rules in
    let at : FitsSigned w64 c.in-Some.at = search rules in
    let found = simp (to_z-of_z w64 _ beats, to_z-of_z w64 _ from, to_z-of_z w64 _ c.ranges.end) at c.in-Some.ensures.some in
    let accent = simp (to_z-of_z w64 _ c.ranges.quantum, to_z-of_z w64 _ at) at c.is_accented-accent.ensures in
    let pushed = simp (to_z-of_z w64 _ at) at c.push.ensures.items in
    let items_are = pushed_is tl c.args.quantum c.in-Some.at c.is_accented-accent.result items c.push.new.self.items accent pushed in
    let more = has_more tl c.args.quantum c.args.start c.args.end place.beats place.from c.in-Some.at items c.requires.tidy c.requires.so_far found in
    let inside = found.inside in
    let next : FitsSigned w64 (place.beats +ℤ pos 1) = omega (arith, ints) in
    let after : FitsSigned w64 (c.in-Some.at +ℤ pos 1) = omega (arith, ints) in
    simp (to_z-of_z w64 _ beats, to_z-of_z w64 _ at, to_z-of_z w64 _ next, to_z-of_z w64 _ after)
    (rw items_are more)

pub returns-in-Some-clause-further : goal.returns-in-Some-clause-further
returns-in-Some-clause-further c =
    omega (arith, ints, c.in-Some.ensures.some.not_before, c.in-Some.ensures.some.inside)
