-- The gates of a config, as they are and as plain data, and what goes out on them.
use Rattle.std.proofs.Common.{◌≡◌, ◌∙◌, ◌≤◌, ℕ, zero, suc, ◌+◌, List, [], ◌∷◌, ◌++◌, length, map, take, refl, sym, ap, append_assoc, append-nil, subst, arith, Some}
use Rattle.std.specs.Prelude.{option_map, slice_get}
use Rattle.std.proofs.lemmas.List.{length-map, take_all}
use Rattle.std.proofs.lemmas.Option.{slice_get-map}
use Rattle.link_node.specs.Config.{GateValue, ConfigValue, config_value, gate_value}
use Rattle.link_node.specs.Event.{SendingValue}
use Rattle.link_node.specs.Sent.{sent_at}
use Rattle.link_node.specs.Telling.{sent_from}
use Rattle.link_node.specs.declared.config.Config.{Config}
use Rattle.link_node.specs.declared.config.GateSetup.{GateSetup}

pub local-is : (gates : List GateSetup) (k : ℕ)
    → option_map (λ setup. setup.local) (slice_get gates k) ≡ option_map (λ g. g.local) (slice_get (map gate_value gates) k)
local-is [] k = refl
local-is (gate ∷ gates) zero = refl
local-is (gate ∷ gates) (suc k) = local-is gates k

pub gate-is : (config : Config) (value : ConfigValue) (k : ℕ) (gate : GateSetup) → config_value config ≡ value
    → slice_get config.gates.items k ≡ Some gate → slice_get value.gates k ≡ Some (gate_value gate)
gate-is config value k gate e there =
    ap (λ (v : ConfigValue). slice_get v.gates k) (sym e) ∙ slice_get-map gate_value config.gates.items k ∙ ap (λ g. option_map gate_value g) there

-- one gate more sends what is sent on it
sent-more : (spelled : GateValue → List ℕ) (j : ℕ) (gates : List GateValue) (k : ℕ)
    → sent_from spelled j (take (suc k) gates) ≡ sent_from spelled j (take k gates) ++ sent_at spelled (j + k) (slice_get gates k)
unfolding sent_from
sent-more spelled j [] zero = refl
sent-more spelled j [] (suc k) = refl
sent-more spelled j (gate ∷ gates) zero =
    let same : j + 0 ≡ j = omega arith in
    rw same (append-nil (sent_at spelled j (Some gate)))
sent-more spelled j (gate ∷ gates) (suc k) =
    let same : j + 1 + k ≡ j + suc k = omega arith in
    let more : sent_from spelled (j + 1) (take (suc k) gates) ≡ sent_from spelled (j + 1) (take k gates) ++ sent_at spelled (j + suc k) (slice_get gates k) =
    subst (λ (i : ℕ). sent_from spelled (j + 1) (take (suc k) gates) ≡ sent_from spelled (j + 1) (take k gates) ++ sent_at spelled i (slice_get gates k))
    same (sent-more spelled (j + 1) gates k) in
    rw more (sym (append_assoc (sent_at spelled j (Some gate)) (sent_from spelled (j + 1) (take k gates)) (sent_at spelled (j + suc k) (slice_get gates k))))

sent-next : (spelled : GateValue → List ℕ) (gates : List GateValue) (k : ℕ)
    → sent_from spelled 0 (take (k + 1) gates) ≡ sent_from spelled 0 (take k gates) ++ sent_at spelled k (slice_get gates k)
sent-next spelled gates k =
    let more : sent_from spelled 0 (take (suc k) gates) ≡ sent_from spelled 0 (take k gates) ++ sent_at spelled (0 + k) (slice_get gates k) = sent-more spelled 0 gates k in
    let next : suc k ≡ k + 1 = omega arith in
    let same : 0 + k ≡ k = omega arith in
    simp (next, same) at more

pub gate-count : (config : Config) (value : ConfigValue) → config_value config ≡ value → length config.gates.items ≡ length value.gates
gate-count config value e = sym (length-map config.gates.items gate_value) ∙ ap (λ (v : ConfigValue). length v.gates) e

-- once all gates had their turn, everything is sent
pub sent-all : (spelled : GateValue → List ℕ) (config : Config) (value : ConfigValue) (k : ℕ) → config_value config ≡ value
    → length config.gates.items ≤ k → sent_from spelled 0 (take k value.gates) ≡ sent_from spelled 0 value.gates
sent-all spelled config value k e past =
    let count = gate-count config value e in
    ap (λ gates. sent_from spelled 0 gates) (take_all k value.gates (omega (arith, count, past)))

pub sent-on : (spelled : GateValue → List ℕ) (gates : List GateValue) (k : ℕ) (old before new : List SendingValue)
    → before ≡ old ++ sent_from spelled 0 (take k gates) → new ≡ before ++ sent_at spelled k (slice_get gates k)
    → new ≡ old ++ sent_from spelled 0 (take (k + 1) gates)
sent-on spelled gates k old before new e f =
    f ∙ ap (λ (list : List SendingValue). list ++ sent_at spelled k (slice_get gates k)) e
    ∙ append_assoc old (sent_from spelled 0 (take k gates)) (sent_at spelled k (slice_get gates k))
    ∙ ap (λ (list : List SendingValue). old ++ list) (sym (sent-next spelled gates k))
