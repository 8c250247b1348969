use Rattle.std.proofs.Common.{◌≡◌, ℕ, ◌+◌, ◌%◌, get_or, refl, sym, ap, ◌∙◌, arith, add-one}
use Rattle.std.proofs.lemmas.Grind.{get_or_default_zero}
use Rattle.std.proofs.lemmas.List.{length-set}
use Rattle.std.proofs.lemmas.List.Edits.{fill_by_more}
use Rattle.std.proofs.lemmas.Nat.{mod_below}
use Rattle.rand_pcg.specs.Lcg.{Lcg}
use Rattle.rand_pcg.specs.Pcg.{pcg32}
use Rattle.lk_base.specs.Ids.{source_after, word_at}
use Rattle.lk_base.proofs.ids.IdSource.draw.Goals as goal

-- the source after one word more
after_more : (source : Lcg) (k : ℕ) → source_after (k + 1) source ≡ (pcg32 (source_after k source)).1
unfolding source_after
after_more source k = rw add-one refl

-- the character of the word that comes after k words
character_is : (source now : Lcg) (k : ℕ) → now ≡ source_after k source → 33 + (pcg32 now).0 % 94 ≡ 33 + word_at k source % 94
unfolding word_at
character_is source now k e = ap (λ s. 33 + (pcg32 s).0 % 94) e

pub loop-k-init : goal.loop-k-init
unfolding source_after
loop-k-init c = record { eight = refl; source = refl; drawn = λ j lt. absurd (omega arith) }

pub loop-k-preserved : goal.loop-k-preserved
loop-k-preserved c =
    let first = c.args.self.now in
    let k = c.loop-k.k in
    let kept = c.loop-k.invariant in
    let here : c.character.result ≡ 33 + word_at k first % 94 =
    c.character.ensures.value ∙ character_is first c.loop-k.self k kept.source in
    record {
      eight = length-set c.loop-k.characters k c.character.result ∙ kept.eight;
      source =
          c.character.ensures.source ∙ ap (λ s. (pcg32 s).1) kept.source ∙ sym (after_more first k);
      drawn =
          rw here (fill_by_more (λ j. 33 + word_at j first % 94) c.loop-k.characters k 0 (omega arith) kept.drawn);
    }

pub returns-clause-visible : goal.returns-clause-visible
returns-clause-visible c =
    λ j d lt.
    let first = get_or_default_zero c.loop-k.characters j d lt in
    let e : get_or c.loop-k.characters j 0 ≡ 33 + word_at j c.args.self.now % 94 =
    c.loop-k.invariant.drawn j (omega arith) in
    let small = mod_below (word_at j c.args.self.now) 94 (omega arith) in
    (omega arith, omega arith)
