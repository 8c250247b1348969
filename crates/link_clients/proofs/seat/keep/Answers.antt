use Rattle.std.proofs.Common.{arith, length, ◌<◌, ◌≡◌, ◌≢◌, sym, ◌∙◌, eqb-true}
use Rattle.std.proofs.lemmas.Bool.{eqb-false}
use Rattle.link_control.proofs.CutLemmas.{kept_full, kept_more}
use Rattle.link_clients.proofs.seat.keep.Goals as goal

pub returns-then-is_full : goal.returns-then-is_full
returns-then-is_full c = λ whole is.
    let len : length c.args.line.now.items ≡ 130 = eqb-true _ _ (sym c.is_full.ensures.value ∙ c.if-is_full.true) in
    kept_full 130 whole c.args.line.now.items c.args.byte (omega (arith, len)) is

pub returns : goal.returns
returns c = λ whole is.
    let other : length c.args.line.now.items ≢ 130 = eqb-false _ _ (sym c.is_full.ensures.value ∙ c.if-is_full.false) in
    let room : length c.args.line.now.items < 130 = omega (arith, other, c.is_full.ensures.fits) in
    c.push.ensures.items ∙ kept_more 130 whole c.args.line.now.items c.args.byte room is
