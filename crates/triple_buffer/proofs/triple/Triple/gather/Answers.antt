use Rattle.std.proofs.Common.{◌≡◌, ◌∙◌, ◌<◌, ◌+◌, ◌-◌, ◌∷◌, ◌++◌, [], length, take, arith, ap, length-take-le}
use Rattle.triple_buffer.specs.declared.views.View.{View}
use Rattle.triple_buffer.specs.declared.views.View.TheVariants.{Reads}
use Rattle.triple_buffer.specs.declared.views.ReaderState.{ReaderState}
use Rattle.triple_buffer.specs.declared.views.Phase.TheVariants.{Idle}
use Rattle.triple_buffer.specs.Views.{reader_in, after_loads, after_last_load}
use Rattle.triple_buffer.proofs.RowLists.{word_fits, last_word}
use Rattle.triple_buffer.proofs.ReaderSteps.{loads, last_loads}
use Rattle.triple_buffer.proofs.triple.Triple.gather.Goals as goal

pub load-requires : goal.load-requires
load-requires g c =
    let i = c.loop-i.invariant in
    let wide = c.args.self.now.wide in
    let n = c.loop-i-test.true in
    let inside : c.loop-i.i < g.row.W = omega arith in
    let fits = word_fits g.row.W c.args.place c.loop-i.i c.requires.place.1 inside in
    let held = i.long in
    let long : length (take c.loop-i.i c.loop-i.row) ≡ c.loop-i.i = length-take-le c.loop-i.i c.loop-i.row (omega arith) in
    let words = wide.words in (
      i.table ∙ c.requires.table,
      omega arith,
      loads _ _ _ c.loop-i.i _ (after_loads (reader_in c.args.seat.now.me.0) (take c.loop-i.i c.loop-i.row) c.loop-i.i) g.row.W c.args.place wide.key i.view c.requires.place.0 c.requires.loading.0 long inside,
    )

pub load-requires-2 : goal.load-requires-2
load-requires-2 g c =
    let i = c.loop-i.invariant in
    let wide = c.args.self.now.wide in
    let positive = wide.some_words in
    let n = c.loop-i-test.false in
    let m = c.loop-i.auto.i-end in
    let fits = word_fits g.row.W c.args.place (g.row.W - 1) c.requires.place.1 (omega arith) in
    let held = i.long in
    let long : length (take c.loop-i.i c.loop-i.row) ≡ c.loop-i.i = length-take-le c.loop-i.i c.loop-i.row (omega arith) in
    let last : length (take c.loop-i.i c.loop-i.row) ≡ g.row.W - 1 = omega arith in
    let whole : g.row.W - 1 + 1 ≡ g.row.W = omega arith in
    let words = wide.words in (
      i.table ∙ c.requires.table,
      omega arith,
      last_loads _ _ _ (g.row.W - 1) _ (after_loads (reader_in c.args.seat.now.me.0) (take c.loop-i.i c.loop-i.row) c.loop-i.i) g.row.W c.args.place wide.key i.view c.requires.place.0 c.requires.loading.0 last whole,
    )

pub returns-clause-read : goal.returns-clause-read
returns-clause-read g c =
    let i = c.loop-i.invariant in
    let wide = c.args.self.now.wide in
    let positive = wide.some_words in
    let n = c.loop-i-test.false in
    let m = c.loop-i.auto.i-end in
    let e : ReaderState = reader_in c.args.seat.now.me.0 in
    let row = last_word c.loop-i.row c.loop-i.i (g.row.W - 1) g.row.W c.load-2.result i.long (omega arith) (omega arith) in
    let steps : (e.steps + c.loop-i.i) + 1 ≡ e.steps + g.row.W = omega arith in
    c.load-2.ensures.2.0
    ∙ (ap (λ (v : View). Reads (after_last_load (reader_in v) c.load-2.result)) i.view
    ∙ (λ k. Reads record e { phase = Idle; loaded = []; seen = e.seen ++ (e.number, row k) ∷ []; steps = steps k }))
