use Rattle.asdp_messages.proofs.OneLemmas.{one_read}
use Rattle.asdp_messages.proofs.laws.one_reading.Goals as goal

pub returns : goal.returns
returns c = λ bytes a b p q.
    one_read (record { spelled = c.one_spelling.ensures; not_both = c.spelled_or_cut.ensures.not_both; cut = c.spelled_or_cut.ensures.one_cut }) bytes a b p q
