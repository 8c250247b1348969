use Rattle.link_words.proofs.EndpointWordLemmas.{is_no_endpoint}
use Rattle.link_words.proofs.endpoint_words.endpoint_in.Goals as goal

pub returns-in_err-word-clause-none : goal.returns-in_err-word-clause-none
returns-in_err-word-clause-none c =
    rw c.from_residual.ensures (is_no_endpoint _ _ c.get_one.ensures.value c.in_err-word.was)
