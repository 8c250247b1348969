use Rattle.std.proofs.Common.{codes, refl, ℕ, ◌<◌, ◌^◌}
use Rattle.std.specs.Fmt.{decimal}
use Rattle.link_text.proofs.EventLemmas.{lacks_by_test}
use Rattle.link_text.proofs.HeadLemmas.{some_said, none_said, group_lacks}
use Rattle.link_text.proofs.head_read.group_of.Goals as goal

pub returns-clause-some : goal.returns-clause-some
returns-clause-some c =
    some_said (λ (group : ℕ). group < 2 ^ 16) decimal (codes "group") c.args.line.now c.group_behind.result c.group_behind.ensures.some

pub returns-clause-none : goal.returns-clause-none
returns-clause-none c =
    none_said (λ (group : ℕ). group < 2 ^ 16) decimal (codes "group") c.args.line.now c.group_behind.result (lacks_by_test (codes "group") refl) group_lacks c.group_behind.ensures.none
