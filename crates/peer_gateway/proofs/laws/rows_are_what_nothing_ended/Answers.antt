use Rattle.peer_gateway.proofs.LawLemmas.{row_after, after_row}
use Rattle.peer_gateway.proofs.laws.rows_are_what_nothing_ended.Goals as goal

pub returns : goal.returns
returns c = λ life row. (row_after life row, λ m. after_row life row m.0 m.1 m.2)
