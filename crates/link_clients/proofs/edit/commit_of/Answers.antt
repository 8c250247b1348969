use Rattle.std.proofs.Common.{sym, subst, w64}
use Rattle.std.proofs.lemmas.Int.{to_z-of_z}
use Rattle.lk_base.specs.Ranges.{IsWithinLimit}
use Rattle.link_live.proofs.EditLemmas.{moment_within}
use Rattle.link_clients.proofs.edit.commit_of.Goals as goal

pub returns-clause-tidy : goal.returns-clause-tidy
returns-clause-tidy c =
    c.between.ensures.tidy c.in_ok-edited.ensures.tidy c.in_ok-edited.ensures.start c.in_ok-edited.ensures.quantum
    (subst IsWithinLimit {x = c.args.at} (sym (to_z-of_z w64 c.args.at (record { sfits = c.ranges.at.sfits }))) (moment_within _ c.requires.moment))
