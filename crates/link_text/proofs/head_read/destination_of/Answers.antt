use Rattle.std.proofs.Common.{codes, refl}
use Rattle.lk_base.specs.Endpoint.{IsEndpoint}
use Rattle.link_lines.specs.Words.{endpoint_text_of}
use Rattle.link_text.proofs.EventLemmas.{endpoint_lacks, lacks_by_test}
use Rattle.link_text.proofs.HeadLemmas.{some_said, none_said}
use Rattle.link_text.proofs.head_read.destination_of.Goals as goal

pub returns-clause-some : goal.returns-clause-some
returns-clause-some c = some_said IsEndpoint endpoint_text_of (codes "to") c.args.line.now c.endpoint_behind.result c.endpoint_behind.ensures.some

pub returns-clause-none : goal.returns-clause-none
returns-clause-none c =
    none_said IsEndpoint endpoint_text_of (codes "to") c.args.line.now c.endpoint_behind.result (lacks_by_test (codes "to") refl) endpoint_lacks c.endpoint_behind.ensures.none
