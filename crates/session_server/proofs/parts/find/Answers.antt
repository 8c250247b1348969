use Rattle.std.proofs.Common.{◌+◌, map, drop, sym, ◌∙◌, arith}
use Rattle.std.specs.String.{string_bytes}
use Rattle.session_server.specs.Words.{named_in}
use Rattle.session_server.proofs.WordLemmas.{Counts, counts_all, counts_here, counts_more, counts_same, no_word}
use Rattle.session_server.proofs.parts.find.Goals as goal
use Rattle.session_server.proofs.parts.find.Goals.{then-is_one_of+else-left-eq0, else-is_one_of}

pub returns-then-left-eq0-clause-some : goal.returns-then-left-eq0-clause-some
returns-then-left-eq0-clause-some c =
    counts_here c.args.first.now c.args.second.now (map string_bytes c.args.words.now) _ (drop (c.loop-at.at + c.part_at-given.result.width) (map string_bytes c.args.words.now)) _ _ _ c.loop-at.invariant c.part_at-given.ensures.part
    (sym c.is_one_of.ensures ∙ c.if-is_one_of.true) c.if-left-eq0.true

pub loop-at-preserved : goal.loop-at-preserved
loop-at-preserved c =
    let first = c.args.first.now in
    let second = c.args.second.now in
    let words = map string_bytes c.args.words.now in
    let there = drop (c.loop-at.at + c.part_at-given.result.width) words in
    elim c.if-is_one_of.branch as (λ _. Counts (named_in first second words) (named_in first second there) c.args.number c.if-is_one_of.left) [
      | then-is_one_of+else-left-eq0 w ↦
          rw w.left-is
          (counts_more first second words (drop c.loop-at.at words) there _ _ _ _ c.loop-at.invariant c.part_at-given.ensures.part
          (sym c.is_one_of.ensures ∙ w.if-is_one_of.true) (omega (arith, w.if-left-eq0.false)))
      | else-is_one_of w ↦
          rw w.left-is
          (counts_same first second words (drop c.loop-at.at words) there _ _ _ c.loop-at.invariant c.part_at-given.ensures.part
          (sym c.is_one_of.ensures ∙ w.if-is_one_of.false))
    ]

pub returns-clause-none : goal.returns-clause-none
returns-clause-none c =
    counts_all c.args.first.now c.args.second.now (map string_bytes c.args.words.now) _ _ _ c.loop-at.invariant (no_word c.args.words.now c.loop-at.at c.loop-at-test.false)
