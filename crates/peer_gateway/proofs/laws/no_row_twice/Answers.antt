use Rattle.peer_gateway.specs.Happenings.{rows_of}
use Rattle.peer_gateway.proofs.LifeLemmas.{keys_apart, place_of_key}
use Rattle.peer_gateway.proofs.laws.no_row_twice.Goals as goal

pub returns : goal.returns
returns c = λ life j k a b p q g i. place_of_key (rows_of life) (keys_apart life) j k a b p q g i
