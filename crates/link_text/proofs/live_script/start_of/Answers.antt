use Rattle.std.proofs.Common.{arith, sym, ap, ◌∙◌, [], ◌∷◌, ◌++◌, ◌≡◌, ◌≤◌, length, map, subst, ℕ, List}
use Rattle.std.proofs.lemmas.Int.{ints}
use Rattle.std.proofs.lemmas.List.{length-map, nil_from_length}
use Rattle.std.proofs.lemmas.Bool.Decides.{nat_tests}
use Rattle.std.specs.List.{flat_map}
use Rattle.link_node.specs.Config.{GateValue, gate_value}
use Rattle.link_node.specs.declared.config.GateSetup.{GateSetup}
use Rattle.link_text.specs.HeadParts.{LacksGate}
use Rattle.link_text.specs.Places.{counting_from}
use Rattle.link_script.specs.ReplayScript.{gate_lines}
use Rattle.link_script.specs.LiveScript.{live_version_line, setup_line}
use Rattle.link_lines.proofs.NumberLemmas.{stored}
use Rattle.link_text.proofs.LiveLemmas.{no_version, no_setup, no_gate, start_said}
use Rattle.link_text.proofs.LiveHeadLemmas.{start_fault, starts_none, starts_version, starts_setup}
use Rattle.link_text.proofs.live_script.start_of.Goals as goal

pub returns-in_default-clause-fault : goal.returns-in_default-clause-fault
returns-in_default-clause-fault c =
    start_fault c.args.text.now c.first_place-first.result [] c.requires c.first_place-first.ensures.ahead c.first_place-first.ensures.counting starts_none
    (no_version _ c.in_default.ensures.none)

pub returns-in_default-setup_from-clause-fault : goal.returns-in_default-setup_from-clause-fault
returns-in_default-setup_from-clause-fault c =
    start_fault c.args.text.now c.in-Some.second (live_version_line ∷ []) c.requires c.in-Some.ensures.ahead (c.first_place-first.ensures.counting ∙ c.in-Some.ensures.some)
    starts_version (no_setup _ c.in_default-setup_from.ensures.none)

pub returns-then-is_empty-clause-fault : goal.returns-then-is_empty-clause-fault
returns-then-is_empty-clause-fault c =
    let mpb = c.in-Some-setup_from.mpb in
    let sync = c.in-Some-setup_from.sync in
    let none : length c.gates_from-gates.result.0.items ≡ 0 = grind (arith, nat_tests) in
    let nothing : map gate_value c.gates_from-gates.result.0.items ≡ [] = ap (λ (xs : List GateSetup). map gate_value xs) (nil_from_length c.gates_from-gates.result.0.items none) in
    let said = c.gates_from-gates.ensures.gates.said ∙ ap (λ (gs : List GateValue). flat_map gate_lines gs ++ counting_from c.args.text.now c.gates_from-gates.result.1.at) nothing in
    start_fault c.args.text.now c.in-Some-setup_from.third (live_version_line ∷ setup_line mpb sync ∷ []) c.requires c.in-Some-setup_from.ensures.ahead
    (c.first_place-first.ensures.counting ∙ c.in-Some.ensures.some ∙ ap (λ (ls : List (List ℕ)). live_version_line ∷ ls) c.in-Some-setup_from.ensures.some.1)
    (starts_setup mpb sync c.in-Some-setup_from.ensures.some.0)
    (no_gate _ mpb sync (subst (λ (n : ℕ). LacksGate n (counting_from c.args.text.now c.in-Some-setup_from.third.at)) none (subst (λ (ls : List (List ℕ)). LacksGate (length c.gates_from-gates.result.0.items) ls) (sym said) c.gates_from-gates.ensures.all)))

pub returns-clause-start : goal.returns-clause-start
returns-clause-start c =
    let mpb = c.in-Some-setup_from.mpb in
    let is = c.in-Some-setup_from.ensures.some.0 in
    let gates = c.gates_from-gates.ensures.gates in
    let long = length-map c.gates_from-gates.result.0.items gate_value in
    let some : 1 ≤ length c.gates_from-gates.result.0.items = grind (arith, nat_tests) in
    rw (stored mpb 3_000_000 (omega (arith, ints, is.fastest)) is.slowest (omega arith))
    (start_said c.args.text.now mpb c.in-Some-setup_from.sync (map gate_value c.gates_from-gates.result.0.items) c.gates_from-gates.result.1 _ _ _
    (record { tempo = is; some_gate = omega (arith, long, some); few_gates = gates.few; each = gates.each }) c.gates_from-gates.ensures.ahead
    c.first_place-first.ensures.counting c.in-Some.ensures.some c.in-Some-setup_from.ensures.some.1 gates.said gates.full
    (subst (λ (n : ℕ). LacksGate n (counting_from c.args.text.now c.gates_from-gates.result.1.at)) (sym long) c.gates_from-gates.ensures.all))
