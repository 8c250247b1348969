use Rattle.std.proofs.Common.{w64}
use Rattle.std.proofs.lemmas.Int.{to_z-of_z}
use Rattle.link_control.proofs.ServingLemmas.{is_done}
use Rattle.link_control.proofs.server.log_line.Goals as goal

pub returns-clause-done : goal.returns-clause-done
returns-clause-done g c =
    is_done _ c.args.last _ _ _ _ _ _ _ _ _ _ (to_z-of_z w64 c.args.last (record { sfits = c.ranges.last.sfits }))
    (to_z-of_z w64 c.until-moment.result (record { sfits = c.until-moment.type_inv }))
    (to_z-of_z w64 c.until-moment.result (record { sfits = c.until-moment.type_inv }))
    c.until-moment.ensures.answer c.in_ok-capture.ensures.captured c.commit_asked-commit.ensures.made c.commit_asked-commit.ensures.value
