-- Ids are drawn one after the other, each of eight words.
use Rattle.std.proofs.Common.{◌≡◌, ◌∙◌, ℕ, zero, suc, ◌+◌, ◌*◌, ap, refl, arith}
use Rattle.rand_pcg.specs.Lcg.{Lcg}
use Rattle.rand_pcg.specs.Pcg.{pcg32}
use Rattle.lk_base.specs.Ids.{source_after}

source-on : (more before : ℕ) (source : Lcg) → source_after more (source_after before source) ≡ source_after (more + before) source
unfolding source_after
source-on zero before source =
    let e : 0 + before ≡ before = omega arith in
    rw e refl
source-on (suc more) before source =
    let e : suc more + before ≡ suc (more + before) = omega arith in
    rw e (ap (λ (s : Lcg). (pcg32 s).1) (source-on more before source))

pub source-next : (drawn : ℕ) (source : Lcg) → source_after 8 (source_after (8 * drawn) source) ≡ source_after (8 * (drawn + 1)) source
source-next drawn source =
    let e : 8 + 8 * drawn ≡ 8 * (drawn + 1) = omega arith in
    source-on 8 (8 * drawn) source ∙ ap (λ (n : ℕ). source_after n source) e
