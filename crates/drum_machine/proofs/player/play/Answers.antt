use Rattle.std.proofs.Common.{◌+◌, refl, sym, subst, ◌∙◌, inl, arith, rules}
use Rattle.std.proofs.lemmas.Bool.{OnTrue_at, OnFalse_at}
use Rattle.lk_base.specs.Ranges.{IsMoment}
use Rattle.drum_machine.proofs.CountLemmas.{counts_stay, no_more, one_rose}
use Rattle.drum_machine.proofs.PlayedLemmas.{cut_block, cut_header, has_begun, is_part, is_whole, none_begun, one_more_block}
use Rattle.drum_machine.proofs.PlayerLemmas.{asked_first, asked_next, asked_none, asked_still, begun_on, has_played_none, is_begun, played_on}
use Rattle.drum_machine.proofs.player.play.Goals as goal

pub returns-then-not-write_whole : goal.returns-then-not-write_whole
returns-then-not-write_whole g c = record {
  played = has_played_none _;
  written = record {
    origin = c.args.drums.now.origin;
    given = 0;
    few = omega arith;
    begun = λ none. none_begun none;
    asked = asked_none _ _ refl;
    written = cut_header _ _ _ _ _ _ _ _ _ _ c.wav_header.ensures (OnFalse_at c.if-not-write_whole.true c.write_whole.ensures.part);
  };
  cause = (refl, inl (OnFalse_at c.if-not-write_whole.true c.write_whole.ensures.cause));
}

pub returns-in_default : goal.returns-in_default
returns-in_default g c = record {
  played = has_played_none _;
  written = is_part 0 c.args.blocks _ _ _ c.args.drums.now _ _ _ _ _ _ _ _ (omega arith) (λ none. none_begun none) (asked_none _ _ c.in_default.ensures.stays)
      (has_begun _ _ _ _ _ _ _ _ _ _ refl refl refl c.wav_header.ensures (OnTrue_at c.if-not-write_whole.false c.write_whole.ensures.whole));
  cause = (c.in_default.ensures.none, OnTrue_at c.if-not-write_whole.false c.write_whole.ensures.quiet, refl);
}

pub loop-number-init : goal.loop-number-init
loop-number-init g c = record {
  played = c.start.ensures.played;
  within = omega arith;
  origin = search rules;
  begun = is_begun (g.A.Audio.seen c.args.audio.now).told c.in-Some.block.start c.start_at.result _ _ c.in-Some.ensures.begins c.in-Some.ensures.some.0 c.start_at.ensures.moment
      c.start_at.ensures.value c.start.ensures.started;
  asked = asked_first c.in-Some.block _ _ c.in-Some.ensures.given;
  playing = has_begun _ _ _ _ _ _ _ _ _ _ refl refl refl c.wav_header.ensures (OnTrue_at c.if-not-write_whole.false c.write_whole.ensures.whole);
  audio = c.in-Some.ensures.some.1;
  sound = OnTrue_at c.if-not-write_whole.false c.write_whole.ensures.quiet;
  midi = refl;
}

pub returns-then-not-play_block : goal.returns-then-not-play_block
returns-then-not-play_block g c = record {
  played = played_on _ _ _ c.loop-number.invariant.played c.play_block.ensures.played c.play_block.ensures.stays.2;
  written = record {
    origin = c.loop-number.drums.origin;
    given = c.loop-number.number + 1;
    few = omega (arith, c.loop-number-test.true);
    begun = λ some. begun_on _ _ _ _ _ _ refl c.play_block.ensures.stays.2 c.play_block.ensures.played c.loop-number.invariant.begun;
    asked = c.loop-number.invariant.asked;
    written = cut_block c.loop-number.number c.args.blocks _ _ _ _ _ _ _ _ _ _ _ _ _ refl c.play_block.ensures.stays.2 c.loop-number.invariant.playing
        (OnFalse_at c.if-not-play_block.true c.play_block.ensures.cut);
  };
  cause = (
    c.loop-number.invariant.audio,
    one_rose _ _ _ _ _ _ c.loop-number.invariant.sound c.loop-number.invariant.midi (OnFalse_at c.if-not-play_block.true c.play_block.ensures.fails),
  );
}

pub loop-number-preserved : goal.loop-number-preserved
loop-number-preserved g c =
    let works = OnTrue_at c.if-not-play_block.false c.play_block.ensures.works in
    record {
      played = played_on _ _ _ c.loop-number.invariant.played c.play_block.ensures.played c.play_block.ensures.stays.2;
      within = omega (arith, c.loop-number-test.true);
      origin = subst IsMoment (sym c.play_block.ensures.stays.1) c.loop-number.invariant.origin;
      begun = begun_on _ _ _ _ _ _ c.play_block.ensures.stays.1 c.play_block.ensures.stays.2 c.play_block.ensures.played c.loop-number.invariant.begun;
      asked = asked_next _ _ _ _ _ c.loop-number.invariant.asked c.in-Some-next_block.ensures.given;
      playing = one_more_block c.loop-number.number c.args.blocks _ _ _ _ _ _ _ _ _ _ _ _ _ refl c.play_block.ensures.stays.2 c.loop-number.invariant.playing
          _ c.play_block.ensures.stays.0 c.play_block.ensures.stays.1 (OnTrue_at c.if-not-play_block.false c.play_block.ensures.block);
      audio = c.in-Some-next_block.ensures.some.1 ∙ c.loop-number.invariant.audio;
      sound = works.0 ∙ c.loop-number.invariant.sound;
      midi = works.1 ∙ c.loop-number.invariant.midi;
    }

pub returns-in_default-next_block : goal.returns-in_default-next_block
returns-in_default-next_block g c =
    let works = OnTrue_at c.if-not-play_block.false c.play_block.ensures.works in
    record {
      played = played_on _ _ _ c.loop-number.invariant.played c.play_block.ensures.played c.play_block.ensures.stays.2;
      written = is_part (c.loop-number.number + 1) c.args.blocks _ _ _ _ _ _ _ _ _ _ _ _ (omega (arith, c.loop-number-test.true))
          (λ some. begun_on _ _ _ _ _ _ c.play_block.ensures.stays.1 c.play_block.ensures.stays.2 c.play_block.ensures.played c.loop-number.invariant.begun)
          (asked_still _ _ _ _ c.in_default-next_block.ensures.stays c.loop-number.invariant.asked)
          (one_more_block c.loop-number.number c.args.blocks _ _ _ _ _ _ _ _ _ _ _ _ _ refl c.play_block.ensures.stays.2 c.loop-number.invariant.playing
          _ c.play_block.ensures.stays.0 c.play_block.ensures.stays.1 (OnTrue_at c.if-not-play_block.false c.play_block.ensures.block));
      cause = (no_more _ _ _ _ c.loop-number.invariant.audio c.in_default-next_block.ensures.none, works.0 ∙ c.loop-number.invariant.sound, works.1 ∙ c.loop-number.invariant.midi);
    }

pub returns : goal.returns
returns g c = record {
  played = c.loop-number.invariant.played;
  written = is_whole c.loop-number.number c.args.blocks _ _ _ _ _ _ _ _ _ _ _ _ c.loop-number.invariant.within (omega (arith, c.loop-number-test.false)) c.loop-number.invariant.begun
      c.loop-number.invariant.asked c.loop-number.invariant.playing;
  cause = counts_stay _ _ _ _ _ _ c.loop-number.invariant.audio c.loop-number.invariant.sound c.loop-number.invariant.midi;
}
