use Rattle.link_node.proofs.EndedLemmas.{bye_ends, limit_ends, row_stays}
use Rattle.link_node.proofs.quiet.byes_and_limits_end_rows.Goals as goal

pub returns-clause-bye : goal.returns-clause-bye
returns-clause-bye c = bye_ends

pub returns-clause-limit : goal.returns-clause-limit
returns-clause-limit c = limit_ends

pub returns-clause-stay : goal.returns-clause-stay
returns-clause-stay c = row_stays
