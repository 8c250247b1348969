use Rattle.std.proofs.Common.{◌≡◌, ◌∙◌, ℕ, arith, sym, subst, refl, rules}
use mathlib.Core.Option.{none}
use Rattle.atomic_table.specs.Table.{step}
use Rattle.triple_buffer.specs.Word.{fresh_in}
use Rattle.triple_buffer.specs.Tokens.{HasCaughtUp}
use Rattle.triple_buffer.specs.Views.{reader_in, after_new_look}
use Rattle.triple_buffer.proofs.ReaderSteps.{looks, turns}
use Rattle.triple_buffer.proofs.CatchUp.{caught_up}
use Rattle.triple_buffer.proofs.triple.Triple.catch_up.Goals as goal

pub load-requires : goal.load-requires
load-requires g c =
    let wide = c.args.self.now.wide in
    let words = wide.words in
    (c.requires.table, omega arith, looks _ _ _ _ (reader_in c.args.seat.now.me.0) c.requires.rests.is c.requires.rests.idle)

pub swap-requires : goal.swap-requires
swap-requires g c =
    let wide = c.args.self.now.wide in
    let words = wide.words in
    let is_fresh : fresh_in c.load.result ≡ 1 = search rules in
    let rests = c.requires.rests in (
      c.load.ensures.0 ∙ c.requires.table,
      omega arith,
      turns _ _ _ _ _ (after_new_look (reader_in c.args.seat.now.me.0) c.load.result) c.args.place c.args.number (c.load.ensures.2.1 is_fresh).0 refl rests.place_is rests.number_is rests.number_fits c.pack.ensures,
    )

pub returns-clause-caught_up : goal.returns-clause-caught_up
returns-clause-caught_up g c =
    let is_fresh : fresh_in c.load.result ≡ 1 = search rules in
    let taken = c.unpack-taken.ensures in
    let looked = c.load.ensures.2.1 is_fresh in
    subst (λ (z : ℕ × ℕ). HasCaughtUp c.args.seat.now.me c.swap.new.seat.me z.0 z.1) (λ k. (sym taken.back k, sym taken.number k))
    (caught_up c.args.seat.now.me c.load.new.seat.me _ c.args.place c.args.number c.load.result c.swap.result (step 0 0 0 0 none) c.requires.rests looked.0 c.load.ensures.2.0 looked.1 looked.2 c.swap.ensures.2)
