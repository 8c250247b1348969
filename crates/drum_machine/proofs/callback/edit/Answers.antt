use Rattle.std.proofs.Common.{sym, subst, w64}
use Rattle.std.proofs.lemmas.Int.{to_z-of_z}
use Rattle.lk_base.specs.Ranges.{IsWithinLimit}
use Rattle.link_live.proofs.EditLemmas.{moment_within}
use Rattle.drum_machine.proofs.callback.edit.Goals as goal

pub commit_audio-number-requires-clause-tidy : goal.commit_audio-number-requires-clause-tidy
commit_audio-number-requires-clause-tidy g c κs within =
    let edited = c.changed-edited.ensures.tidy in
    c.between-commit.ensures.tidy edited.timeline edited.start edited.quantum
    (subst IsWithinLimit {x = c.args.at} (sym (to_z-of_z w64 c.args.at (record { sfits = c.ranges.at.sfits }))) (moment_within _ c.requires.moment))
