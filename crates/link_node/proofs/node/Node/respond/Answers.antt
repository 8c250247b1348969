use Rattle.std.proofs.Common.{◌≡◌, ◌∙◌, ap, rules}
use Rattle.std.specs.Prelude.{option_map, slice_get}
use Rattle.link_node.specs.Config.{ConfigValue}
use Rattle.link_node.specs.Telling.{response_to, local_of}
use Rattle.link_node.proofs.GateLemmas.{local-is}
use Rattle.link_node.proofs.node.Node.respond.Goals as goal

pub returns-clause-sends : goal.returns-clause-sends
unfolding response_to
returns-clause-sends c m stands =
    let local : c.local_of.result ≡ local_of c.args.gate m =
    c.local_of.ensures ∙ local-is c.args.self.now.config.gates.items c.args.gate.0
    ∙ ap (λ (config : ConfigValue). option_map (λ g. g.local) (slice_get config.gates c.args.gate.0)) stands.config in
    let fields = c.fields-fields.ensures m stands in
    search rules
