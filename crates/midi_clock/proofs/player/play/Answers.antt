use Rattle.std.proofs.Common.{refl, ◌∙◌, arith}
use Rattle.std.proofs.lemmas.Bool.{OnTrue_at, OnFalse_at}
use Rattle.midi_clock.proofs.PlayedLemmas.{begins_at, cut_block, has_begun, has_room, is_whole, one_more_block, origin_stored, read_none, read_on, rose_from}
use Rattle.midi_clock.proofs.player.play.Goals as goal

pub loop-number-init : goal.loop-number-init
loop-number-init g c = record {
  read = read_none _;
  within = omega arith;
  playing = has_begun _ _ _ _ _ c.new-clock.ensures c.requires.none;
  works = refl;
}

pub send-requires-clause-few : goal.send-requires-clause-few
send-requires-clause-few g c = has_room _ c.args.blocks _ _ _ _ _ _ _ c.loop-number.invariant.playing _ c.loop-number-test.true c.requires.ready.few c.as_slice.ensures.fits

pub returns-then-not-send : goal.returns-then-not-send
returns-then-not-send g c =
    let block = c.make_block-state.ensures in
    let begins = begins_at c.args.origin c.loop-number.number c.args.blocks _ c.requires.ready (omega (arith, c.loop-number-test.true)) c.from.ensures in
    let cut = OnFalse_at c.if-not-send.true c.send.ensures.cut in
    record {
      read = read_on _ _ _ _ _ _ c.loop-number.invariant.read block.read.2;
      played = cut_block _ _ _ _ _ _ _ _ _ _ _ _ _ _ _ _ c.loop-number.invariant.playing block.read.2 begins (c.as_slice.ensures.value ∙ block.events)
          _ c.args.blocks _ (origin_stored _ _ c.requires.ready) c.loop-number-test.true cut.1 cut.2;
      cause = rose_from _ _ _ c.loop-number.invariant.works (OnFalse_at c.if-not-send.true c.send.ensures.fails);
    }

pub loop-number-preserved : goal.loop-number-preserved
loop-number-preserved g c =
    let block = c.make_block-state.ensures in
    let begins = begins_at c.args.origin c.loop-number.number c.args.blocks _ c.requires.ready (omega (arith, c.loop-number-test.true)) c.from.ensures in
    record {
      read = read_on _ _ _ _ _ _ c.loop-number.invariant.read block.read.2;
      within = omega (arith, c.loop-number-test.true);
      playing = one_more_block _ _ _ _ _ _ _ _ _ _ _ _ _ _ _ _ c.loop-number.invariant.playing block.read.2 begins (c.as_slice.ensures.value ∙ block.events)
          _ block.clock c.as_slice.ensures.fits (OnTrue_at c.if-not-send.false c.send.ensures.whole) (OnTrue_at c.if-not-send.false c.send.ensures.counted);
      works = OnTrue_at c.if-not-send.false c.send.ensures.works ∙ c.loop-number.invariant.works;
    }

pub returns : goal.returns
returns g c = record {
  read = c.loop-number.invariant.read;
  played = is_whole _ _ _ _ _ _ _ _ _ c.loop-number.invariant.playing _ (origin_stored _ _ c.requires.ready) c.loop-number.invariant.within (omega (arith, c.loop-number-test.false));
  cause = c.loop-number.invariant.works;
}
