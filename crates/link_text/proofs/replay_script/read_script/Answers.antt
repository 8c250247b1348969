use Rattle.std.proofs.Common.{arith, sym, ap, ◌∙◌, [], ◌++◌, ◌≡◌, ◌≤◌, ◌^◌, length, map, subst, ℕ, List}
use Rattle.std.proofs.lemmas.Int.{ints}
use Rattle.std.proofs.lemmas.List.{length-map, nil_from_length}
use Rattle.std.proofs.lemmas.Bool.Decides.{nat_tests}
use Rattle.std.specs.List.{flat_map}
use Rattle.link_node.specs.Config.{GateValue, gate_value}
use Rattle.link_node.specs.declared.config.GateSetup.{GateSetup}
use Rattle.link_text.specs.HeadParts.{config_of, LacksGate}
use Rattle.link_text.specs.Places.{counting_from}
use Rattle.link_script.specs.ReplayScript.{AreEventLines, gate_lines}
use Rattle.link_lines.proofs.NumberLemmas.{stored}
use Rattle.link_text.proofs.ScriptLemmas.{no_first_gate, head_is, head_said, checked, bad_event, with_gates}
use Rattle.link_text.proofs.replay_script.read_script.Goals as goal

pub returns-then-is_empty-clause-fault : goal.returns-then-is_empty-clause-fault
returns-then-is_empty-clause-fault c =
    let front = c.in-Ok.front in
    let text = c.args.text.now in
    let none : length c.gates_from-gates.result.0.items ≡ 0 = grind (arith, nat_tests) in
    let nothing : map gate_value c.gates_from-gates.result.0.items ≡ [] = ap (λ (xs : List GateSetup). map gate_value xs) (nil_from_length c.gates_from-gates.result.0.items none) in
    let said = c.gates_from-gates.ensures.gates.said ∙ ap (λ (gs : List GateValue). flat_map gate_lines gs ++ counting_from text c.gates_from-gates.result.1.at) nothing in
    no_first_gate text front.version (config_of front.node front.group front.quantum) front.node.now front.behind c.requires c.in-Ok.ensures.front
    (subst (λ (n : ℕ). LacksGate n (counting_from text front.behind.at)) none (subst (λ (ls : List (List ℕ)). LacksGate (length c.gates_from-gates.result.0.items) ls) (sym said) c.gates_from-gates.ensures.all))

pub returns-in-Err-events_from-clause-fault : goal.returns-in-Err-events_from-clause-fault
returns-in-Err-events_from-clause-fault c =
    let front = c.in-Ok.front in
    let config = config_of front.node front.group front.quantum in
    let is = c.in-Ok.ensures.front in
    let gates = c.gates_from-gates.ensures.gates in
    let values = map gate_value c.gates_from-gates.result.0.items in
    let long = length-map c.gates_from-gates.result.0.items gate_value in
    let some : 1 ≤ length c.gates_from-gates.result.0.items = grind (arith, nat_tests) in
    bad_event c.args.text.now front.version (with_gates config values) front.node.now c.gates_from-gates.result.1 c.in-Err-events_from.bad _ c.requires is.opening.known
    (head_is front.version config front.node.now values is.opening (omega (arith, long, some)) gates.few gates.each)
    (head_said c.args.text.now front.version config front.node.now front.behind values _ is gates.said)
    gates.full (subst (λ (n : ℕ). LacksGate n (counting_from c.args.text.now c.gates_from-gates.result.1.at)) (sym long) c.gates_from-gates.ensures.all)
    (c.len.ensures.value ∙ sym long) c.in-Err-events_from.ensures.fault

pub returns-clause-script : goal.returns-clause-script
returns-clause-script c =
    let front = c.in-Ok.front in
    let config = config_of front.node front.group front.quantum in
    let is = c.in-Ok.ensures.front in
    let node = is.opening.node in
    let quantum = is.opening.quantum in
    let gates = c.gates_from-gates.ensures.gates in
    let values = map gate_value c.gates_from-gates.result.0.items in
    let long = length-map c.gates_from-gates.result.0.items gate_value in
    let some : 1 ≤ length c.gates_from-gates.result.0.items = grind (arith, nat_tests) in
    let events = c.in_default.ensures.events in
    rw (
      stored front.node.mpb 3_000_000 (omega (arith, ints, node.fastest)) node.slowest (omega arith),
      stored front.node.now (2 ^ 55) node.moment.0 node.moment.1 (omega arith),
      stored front.quantum (2 ^ 40) quantum.0 quantum.1 (omega arith),
    )
    (checked c.args.text.now front.version (with_gates config values) front.node.now c.gates_from-gates.result.1 events.0 c.gates_from-gates.ensures.ahead is.opening.known
    (head_is front.version config front.node.now values is.opening (omega (arith, long, some)) gates.few gates.each)
    (head_said c.args.text.now front.version config front.node.now front.behind values _ is gates.said)
    (subst (λ (n : ℕ). AreEventLines n 0 (counting_from c.args.text.now c.gates_from-gates.result.1.at) events.0) (c.len.ensures.value ∙ sym long) events.1) events.2)
