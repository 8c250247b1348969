-- A text is one script at most.
use Rattle.std.proofs.Common.{◌≡◌, sym, ◌∙◌, ap, subst, arith, ℤ, ℕ, Bool, List, length}
use Rattle.lk_base.specs.declared.ids.NodeId.{NodeId}
use Rattle.link_node.specs.Config.{ConfigValue, GateValue}
use Rattle.link_node.specs.Event.{EventValue}
use Rattle.link_script.specs.ReplayScript.{AreEventLines, IsScriptOf}
use Rattle.link_text.proofs.HeadLemmas.{AreOneNode, events_no_to, full_events}
use Rattle.link_text.proofs.EventUniqueLemmas.{events_one}
use Rattle.link_text.proofs.ScriptLemmas.{head_one, events_lack}

abbrev config_from : NodeId → ℕ → ℤ → Bool → ℕ → ℤ → List GateValue → ConfigValue
config_from id seed mpb sync group quantum gates =
    record { id = id; seed = seed; mpb = mpb; sync = sync; group = group; quantum = quantum; gates = gates }

config_same : (c d : ConfigValue) (now at : ℤ) → AreOneNode c d now at → c.group ≡ d.group → c.quantum ≡ d.quantum → c.gates ≡ d.gates → c ≡ d
config_same c d now at one group quantum gates =
    ap (λ (x : NodeId). config_from x c.seed c.mpb c.sync c.group c.quantum c.gates) one.id
    ∙ ap (λ (x : ℕ). config_from d.id x c.mpb c.sync c.group c.quantum c.gates) one.seed
    ∙ ap (λ (x : ℤ). config_from d.id d.seed x c.sync c.group c.quantum c.gates) one.mpb
    ∙ ap (λ (x : Bool). config_from d.id d.seed d.mpb x c.group c.quantum c.gates) one.sync
    ∙ ap (λ (x : ℕ). config_from d.id d.seed d.mpb d.sync x c.quantum c.gates) group
    ∙ ap (λ (x : ℤ). config_from d.id d.seed d.mpb d.sync d.group x c.gates) quantum
    ∙ ap (λ (x : List GateValue). config_from d.id d.seed d.mpb d.sync d.group d.quantum x) gates

pub one_config : (text : List ℕ) (v w : ℕ) (c d : ConfigValue) (now at : ℤ) (es fs : List EventValue)
    → IsScriptOf text v c now es → IsScriptOf text w d at fs → (v ≡ w) × (c ≡ d) × (now ≡ at) × (es ≡ fs)
one_config text v w c d now at es fs s t =
    let one = head_one v w c d now at s.rest t.rest s.known t.known s.head t.head
    (full_events c.gates s.rest (events_no_to (length c.gates) 0 s.rest es s.events)) (full_events d.gates t.rest (events_no_to (length d.gates) 0 t.rest fs t.events))
    (events_lack (length c.gates) 0 (length c.gates) s.rest es s.events) (events_lack (length d.gates) 0 (length d.gates) t.rest fs t.events)
    (sym s.said ∙ t.said) in
    let config = config_same c d now at one.node one.group one.quantum one.gates in
    let events = events_one (length c.gates) (length d.gates) 0 0 t.rest es fs (omega (arith, s.head.opens.few_gates)) (omega (arith, t.head.opens.few_gates))
    (subst (λ (ls : List (List ℕ)). AreEventLines (length c.gates) 0 ls es) one.rest s.events) t.events in
    (one.version, config, one.node.moment, events)
