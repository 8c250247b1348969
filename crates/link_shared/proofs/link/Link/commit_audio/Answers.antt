use Rattle.std.proofs.Common.{◌∙◌, ap, sym, rules, List, ℕ, map, drop}
use Rattle.client_state.specs.Words.{commit_of_words}
use Rattle.link_shared.specs.Audio.{last_of}
use Rattle.link_shared.proofs.AudioLemmas.{last_made}
use Rattle.link_shared.proofs.link.Link.commit_audio.Goals as goal

pub invariant_of-pass : goal.invariant_of-pass
invariant_of-pass g c =
    let known = c.pass.invariant in
    let made = c.publish-made.ensures.made in (
      known.0,
      c.publish-made.ensures.cell ∙ known.1,
      known.2,
      search rules,
      last_made _ _ _ _ known.3 (c.row.ensures.reads_back c.requires.tidy) c.publish-made.ensures.number ∙ ap (λ (rows : List (List ℕ)). last_of (map commit_of_words (drop 1 rows))) (sym made),
      search rules,
    )
