use Rattle.asdp_messages.specs.Reading.{reading_of}
use Rattle.asdp_messages.proofs.ReadingLemmas.{one_each}
use Rattle.asdp_messages.proofs.laws.all_are_read.Goals as goal

pub returns : goal.returns
returns c = λ bytes are short. (reading_of bytes, one_each c.spelled_or_cut.ensures.walked bytes are short)
