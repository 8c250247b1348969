use Rattle.std.proofs.Common.{◌≡◌, ◌<◌, ◌++◌, ◌∷◌, [], ℤ, w64, to_z, of_z, List, length, map, take, ap, subst, sym, ◌∙◌, rules}
use Rattle.std.proofs.lemmas.List.{map-append}
use Rattle.link_node.specs.Config.{ConfigValue, config_value}
use Rattle.link_node.specs.Machine.{Machine}
use Rattle.link_node.specs.Opening.{opened}
use Rattle.link_world.specs.Standing.{AreStanding}
use Rattle.link_world.specs.declared.peer.Peer.{Peer}
use Rattle.link_world.proofs.StandingLemmas.{standing-append}
use Rattle.link_world.proofs.Lists.{takes_more}
use Rattle.link_world.proofs.world.opened.Goals as goal

pub loop-config-preserved : goal.loop-config-preserved
loop-config-preserved c =
    let now : ℤ = to_z w64 (of_z w64 c.args.now) in
    let open_one : ConfigValue → Machine = λ config. opened config now in
    let configs = c.args.configs.now in
    let item = c.config-item.result in
    let peer = c.in_ok-new.field-0 in
    let was : List Machine = map open_one (map config_value (take c.loop-config.config-index configs)) in
    let within : c.loop-config.config-index < length configs = search rules in
    let more = takes_more config_value configs c.loop-config.config-index item within c.config-item.is in
    let machines = ap (λ (l : List ConfigValue). map open_one l) more ∙ map-append open_one (map config_value (take c.loop-config.config-index configs)) (config_value item ∷ []) in
    let pushed : c.push.new.self.items ≡ c.loop-config.peers.items ++ peer ∷ [] = search rules in
    subst (λ (l : List Machine). AreStanding c.push.new.self.items l) (sym machines)
    (subst (λ (l : List Peer). AreStanding l (was ++ open_one (config_value item) ∷ [])) (sym pushed)
    (standing-append c.loop-config.peers.items was peer (open_one (config_value item)) c.loop-config.invariant c.in_ok-new.ensures))
