use Rattle.std.proofs.Common.{ap, length, refl, ◌∙◌, arith, rules}
use Rattle.std.proofs.lemmas.Bool.{OnTrue_at}
use Rattle.drum_machine.proofs.RehearsalLemmas.{are_told, rehearsed_more, rehearsed_none}
use Rattle.drum_machine.proofs.rehearsal.play_bars.Goals as goal

pub loop-block-init : goal.loop-block-init
loop-block-init g c = record {
  within = omega arith;
  gates = c.requires.gates;
  handed = refl;
  made = omega (arith, ap length c.requires.unmade);
  pattern = c.new-drums.ensures.given.0;
  origin = c.new-drums.ensures.given.1;
  rehearsing = rehearsed_none _ _ _ _ c.requires.unmade c.requires.untold;
  faults = refl;
}

pub loop-block-preserved : goal.loop-block-preserved
loop-block-preserved g c =
    let pattern = c.callback-capture.ensures.stays.0 ∙ c.loop-block.invariant.pattern in
    let origin = c.callback-capture.ensures.stays.1 ∙ c.loop-block.invariant.origin in
    record {
      within = omega (arith, c.loop-block-test.true);
      gates = search rules;
      handed = search rules;
      made = omega (arith, ap length c.callback-capture.ensures.read.commits_stay, c.edit_due.ensures.few, c.loop-block.invariant.made);
      pattern = pattern;
      origin = origin;
      rehearsing = rehearsed_more c.loop-block.block _ _ _ _ _ _ _ _ _ _ _ _ _ _ _ refl pattern origin c.loop-block.invariant.rehearsing c.edit_due.ensures.edited
          c.callback-capture.ensures.read (OnTrue_at c.if-not-tell_block.false c.tell_block.ensures.told) c.tell_block.ensures.tempo;
      faults = OnTrue_at c.if-not-tell_block.false c.tell_block.ensures.works ∙ c.loop-block.invariant.faults;
    }

pub returns-clause-told : goal.returns-clause-told
returns-clause-told g c = are_told _ _ _ _ _ _ (omega (arith, c.loop-block.invariant.within, c.loop-block-test.false)) c.loop-block.invariant.rehearsing
