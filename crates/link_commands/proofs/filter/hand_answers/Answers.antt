use Rattle.std.proofs.Common.{refl, ◌∙◌, arith}
use Rattle.link_commands.proofs.FilterLemmas.{Laws, handed_none, pair_holds, handed_more, handed_part, totals_over, totals_part}
use Rattle.link_commands.proofs.OutletLemmas.{on_failure}
use Rattle.link_commands.proofs.filter.hand_answers.Goals as goal

pub loop-at-init : goal.loop-at-init
loop-at-init g c = record { handed = handed_none c.args.text.now c.new-filter.result _ _ c.new-filter.ensures; quiet = refl }

pub put_answer-is_accepted-requires : goal.put_answer-is_accepted-requires
put_answer-is_accepted-requires g c =
    pair_holds c.args.text.now c.line_at-next.result.0.now c.loop-at.at c.loop-at.pairs c.loop-at.refused c.loop-at.filter _ _ _ _ _
    c.loop-at.invariant.handed c.line_at-next.ensures.lines c.requires.pairs

pub returns-in_err-put_line-clause-part : goal.returns-in_err-put_line-clause-part
returns-in_err-put_line-clause-part g c =
    let laws : Laws = record { filtered = c.kept_pairs_are_filtered.ensures; kept = c.a_new_pair_is_near.ensures; last_of_all = c.the_last_of_the_last.ensures } in
    on_failure c.from_residual.result
    (handed_part laws c.args.text.now c.line_at-next.result.0.now c.put_answer-is_accepted.new.line.items c.loop-at.at c.line_at-next.result.1
    c.loop-at.pairs c.loop-at.refused c.loop-at.filter c.put_answer-is_accepted.new.filter c.put_answer-is_accepted.result _ _ _ _ _
    c.loop-at.invariant.handed c.line_at-next.ensures.lines c.line_at-next.ensures.further c.line_at-next.ensures.within
    c.put_answer-is_accepted.ensures.accepted c.put_answer-is_accepted.ensures.refused c.requires.pairs
    (rw c.as_slice.ensures.value at c.in_err-put_line.ensures.part))

pub loop-at-preserved : goal.loop-at-preserved
loop-at-preserved g c =
    let laws : Laws = record { filtered = c.kept_pairs_are_filtered.ensures; kept = c.a_new_pair_is_near.ensures; last_of_all = c.the_last_of_the_last.ensures } in
    record {
      handed = handed_more laws c.args.text.now c.line_at-next.result.0.now c.put_answer-is_accepted.new.line.items c.loop-at.at c.line_at-next.result.1
          c.loop-at.pairs c.loop-at.refused c.from-refused.result c.loop-at.filter c.put_answer-is_accepted.new.filter c.put_answer-is_accepted.result _ _ _ _ _ _
          c.loop-at.invariant.handed c.line_at-next.ensures.lines c.line_at-next.ensures.further c.line_at-next.ensures.within
          c.put_answer-is_accepted.ensures.accepted c.put_answer-is_accepted.ensures.refused c.from-refused.ensures
          (rw c.as_slice.ensures.value at c.in_ok-put_line.ensures.kept);
      quiet = c.in_ok-put_line.ensures.quiet ∙ c.loop-at.invariant.quiet;
    }

pub returns-clause-kept : goal.returns-clause-kept
returns-clause-kept g c =
    totals_over c.put_line-2.result c.args.text.now c.put_totals.new.line.items c.loop-at.at c.loop-at.pairs c.loop-at.refused c.loop-at.filter _ _ _ _ _ _
    c.loop-at.invariant.handed (omega arith) c.put_totals.ensures (rw c.as_slice-2.ensures.value at c.put_line-2.ensures.kept)

pub returns-clause-part : goal.returns-clause-part
returns-clause-part g c =
    totals_part c.put_line-2.result c.args.text.now c.put_totals.new.line.items c.loop-at.at c.loop-at.pairs c.loop-at.refused c.loop-at.filter _ _ _ _ _
    c.loop-at.invariant.handed (omega arith) c.put_totals.ensures (rw c.as_slice-2.ensures.value at c.put_line-2.ensures.part)
