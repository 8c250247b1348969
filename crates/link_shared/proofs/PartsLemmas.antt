-- What the parts of a link know of the node that was opened for them.
use Rattle.std.proofs.Common.{◌≡◌, ℕ, ℤ, ◌+◌, ◌≤◌, List, [], ◌∷◌, map, sym, ap, subst, ◌∙◌, arith}
use Rattle.client_state.specs.Words.{words_of_state}
use Rattle.client_state.specs.declared.state.State.{State}
use Rattle.link_node.specs.Config.{ConfigValue, config_value, IsConfig}
use Rattle.link_node.specs.Opening.{opened}
use Rattle.link_node.specs.Standing.{StandsFor}
use Rattle.link_node.specs.declared.node.Node.{Node}
use Rattle.link_shared.specs.Keeper.{HasRoom}

-- a node has the config that it was opened with
pub config_stays : (node : Node) (config : ConfigValue) (now : ℤ) → StandsFor node (opened config now) → config_value node.config ≡ config
unfolding opened
config_stays node config now stands = stands.parts.config

-- so it stands for the machine that is opened with its own config
pub opened_with_its_config : (node : Node) (config : ConfigValue) (now held : ℤ) → held ≡ now → StandsFor node (opened config now)
    → StandsFor node (opened (config_value node.config) held)
opened_with_its_config node config now held same stands =
    subst (λ (z : ℤ). StandsFor node (opened (config_value node.config) z)) (sym same)
    (subst (λ (given : ConfigValue). StandsFor node (opened given now)) (sym (config_stays node config now stands)) stands)

pub its_config_is_one : (node : Node) (config : ConfigValue) (now : ℤ) → StandsFor node (opened config now) → IsConfig config → IsConfig (config_value node.config)
its_config_is_one node config now stands is = subst IsConfig (sym (config_stays node config now stands)) is

-- there is room for as many events as the journal takes
pub room_at_start : (most event_places state_places : ℕ) → most ≤ 524_288 → most ≤ event_places → most + 1 ≤ state_places → HasRoom most 0 1 event_places state_places
room_at_start most event_places state_places fits events states = record {
  few_events = omega arith;
  most_fits = fits;
  few_states = omega arith;
  event_room = events;
  state_room = states;
}

-- the one row that was made is that of the one state published
pub row_of_opening : (state : State) (row : List ℕ) (made : List (List ℕ)) (published : List State) → row ≡ words_of_state state → made ≡ row ∷ [] → published ≡ state ∷ []
    → made ≡ map words_of_state published
row_of_opening state row made published row_is made_is published_is =
    made_is ∙ ap (λ (words : List ℕ). words ∷ []) row_is ∙ ap (map words_of_state) (sym published_is)
