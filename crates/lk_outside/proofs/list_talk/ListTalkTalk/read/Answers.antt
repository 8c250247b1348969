use Rattle.std.proofs.Common.{arith}
use Rattle.std.proofs.lemmas.Bool.Decides.{nat_tests}
use Rattle.lk_outside.proofs.SourceLemmas.{takes_front}
use Rattle.lk_outside.proofs.list_talk.ListTalkTalk.read.Goals as goal

pub returns-clause-bytes : goal.returns-clause-bytes
returns-clause-bytes c = (
  grind (arith, nat_tests, c.if-is_empty.ensures),
  omega arith,
  takes_front _ _ _ _ _ _ c.rest-rest.ensures (omega arith) c.copy_from_slice.ensures.after,
)
