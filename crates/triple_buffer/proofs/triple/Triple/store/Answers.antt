use Rattle.std.proofs.Common.{◌≡◌, ◌+◌, take, length, get_or, arith, sym, ap, ◌∙◌, length-take-le}
use Rattle.std.proofs.lemmas.List.{take_more}
use Rattle.triple_buffer.specs.declared.views.View.{View}
use Rattle.triple_buffer.specs.declared.views.View.TheVariants.{Writes}
use Rattle.triple_buffer.specs.declared.views.WriterState.{WriterState}
use Rattle.triple_buffer.specs.Views.{writer_in, after_store, after_stores}
use Rattle.triple_buffer.proofs.RowLists.{word_fits}
use Rattle.triple_buffer.proofs.WriterSteps.{stores}
use Rattle.triple_buffer.proofs.triple.Triple.store.Goals as goal

pub store-requires : goal.store-requires
store-requires g c =
    let i = c.loop-i.invariant in
    let wide = c.args.self.now.wide in
    let fits = word_fits g.row.W c.args.place c.loop-i.i c.requires.place.1 c.loop-i-test.true in
    let long : length (take c.loop-i.i c.args.row.now) ≡ c.loop-i.i = length-take-le c.loop-i.i c.args.row.now (omega (arith, c.told-row)) in (
      i.table ∙ c.requires.table,
      (let words = wide.words in omega arith),
      stores _ _ _ c.loop-i.i _ _ (after_stores (writer_in c.args.seat.now.me.0) (take c.loop-i.i c.args.row.now) c.loop-i.i) g.row.W c.args.place wide.key i.view c.requires.place.0 long c.loop-i-test.true,
    )

pub loop-i-preserved : goal.loop-i-preserved
loop-i-preserved g c =
    let i = c.loop-i.invariant in
    let s = c.store.ensures in
    let p : WriterState = writer_in c.args.seat.now.me.0 in
    let told = c.told-row in
    let more = take_more c.args.row.now c.loop-i.i 0 (omega arith) in
    let steps : (p.steps + c.loop-i.i) + 1 ≡ p.steps + (c.loop-i.i + 1) = omega arith in record {
      table = s.0 ∙ i.table;
      bare = s.2.1 ∙ i.bare;
      view = s.2.0
          ∙ ap (λ (v : View). Writes (after_store (writer_in v) (get_or c.args.row.now c.loop-i.i 0))) i.view
          ∙ (λ k. Writes record { place = p.place; made = p.made; stored = sym more k; steps = steps k });
    }
