use Rattle.std.proofs.Common.{rules, ap}
use Rattle.std.proofs.lemmas.Nat.{be_bytes_8}
use Rattle.client_state.proofs.words.word_of_id.Goals as goal

pub returns-clause-reads_back : goal.returns-clause-reads_back
returns-clause-reads_back c =
    ap (λ bytes. record { 0 = bytes }) (be_bytes_8 c.args.id.0 _ (search rules) (search rules) c.from_be_bytes.ensures)
