use Rattle.std.proofs.Common.{w64}
use Rattle.std.proofs.lemmas.Int.{to_z-of_z}
use Rattle.link_clients.proofs.PieceLemmas.{is_made}
use Rattle.link_clients.proofs.piece.make.Goals as goal

pub returns-clause-done : goal.returns-clause-done
returns-clause-done g c =
    is_made _ c.args.last _ _ _ _ _ _ _ _ _ _ (to_z-of_z w64 c.args.last (record { sfits = c.ranges.last.sfits }))
    (to_z-of_z w64 c.until-at.result (record { sfits = c.until-at.type_inv }))
    (to_z-of_z w64 c.until-at.result (record { sfits = c.until-at.type_inv }))
    c.until-at.ensures.answer c.in_ok-capture.ensures.captured c.commit_line-commit.ensures.made c.commit_line-commit.ensures.value
