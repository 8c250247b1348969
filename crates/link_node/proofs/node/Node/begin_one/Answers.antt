use Rattle.std.proofs.Common.{rules, ◌∙◌, sym}
use Rattle.ping_measure.specs.Life as measure
use Rattle.ping_measure.specs.Life.{opening}
use Rattle.link_node.specs.Tick.{begun_one}
use Rattle.link_node.proofs.PartLemmas.{now_in}
use Rattle.link_node.proofs.node.Node.begin_one.Goals as goal

pub returns-in-Some-clause-stands : goal.returns-in-Some-clause-stands
unfolding begun_one
returns-in-Some-clause-stands c m stands =
    let begun : measure.StandsFor c.start-measure.result.0 (opening c.in-Some.target c.args.session m.moment) =
    rw (now_in _ m stands) at c.start-measure.ensures.stands in
    rw (sym (c.target.ensures m.life stands.life) ∙ c.in-Some.is) (search rules)

pub returns-in-None-clause-stands : goal.returns-in-None-clause-stands
unfolding begun_one
returns-in-None-clause-stands c m stands =
    rw (sym (c.target.ensures m.life stands.life) ∙ c.in-None.is) (c.give_up.ensures.stands m stands)
