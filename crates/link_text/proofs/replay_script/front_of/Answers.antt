use Rattle.std.proofs.Common.{arith, ap, ◌∙◌, inr, [], ◌∷◌, pos, ℕ, ◌^◌, List}
use Rattle.link_text.specs.HeadParts.{config_of, plain_of}
use Rattle.link_script.specs.ReplayScript.{version_line, node_line, group_line}
use Rattle.link_lines.proofs.NumberLemmas.{stored}
use Rattle.link_text.proofs.ScriptLemmas.{fault_here, starts_none, starts_version, starts_node, starts_group, no_version, no_node, no_group, no_quantum, plain_opening, group_opening, front_of_first, front_of_second, known_second}
use Rattle.link_text.proofs.replay_script.front_of.Goals as goal

pub returns-in_default-clause-fault : goal.returns-in_default-clause-fault
returns-in_default-clause-fault c =
    fault_here c.args.text.now c.first_place-first.result [] c.requires c.first_place-first.ensures.ahead c.first_place-first.ensures.counting starts_none
    (no_version _ c.in_default.ensures.none)

pub returns-in_default-node_from-clause-fault : goal.returns-in_default-node_from-clause-fault
returns-in_default-node_from-clause-fault c =
    let version = c.in-Some.version in
    fault_here c.args.text.now c.in-Some.second (version_line version ∷ []) c.requires c.in-Some.ensures.ahead (c.first_place-first.ensures.counting ∙ c.in-Some.ensures.some.1)
    (starts_version version c.in-Some.ensures.some.0) (no_node version _ c.in_default-node_from.ensures.none)

pub returns-then-version-eq1-clause-front : goal.returns-then-version-eq1-clause-front
returns-then-version-eq1-clause-front c =
    front_of_first c.args.text.now c.in-Some.version c.in-Some-node_from.node c.in-Some-node_from.third _ _ c.in-Some-node_from.ensures.ahead c.if-version-eq1.true
    c.in-Some-node_from.ensures.some.0 c.first_place-first.ensures.counting c.in-Some.ensures.some.1 c.in-Some-node_from.ensures.some.1

pub returns-in_default-group_from-clause-fault : goal.returns-in_default-group_from-clause-fault
returns-in_default-group_from-clause-fault c =
    let version = c.in-Some.version in
    let node = c.in-Some-node_from.node in
    let two = known_second version c.in-Some.ensures.some.0 c.if-version-eq1.false in
    fault_here c.args.text.now c.in-Some-node_from.third (version_line version ∷ node_line (plain_of node) node.now ∷ []) c.requires c.in-Some-node_from.ensures.ahead
    (c.first_place-first.ensures.counting ∙ c.in-Some.ensures.some.1 ∙ ap (λ (ls : List (List ℕ)). version_line version ∷ ls) c.in-Some-node_from.ensures.some.1)
    (starts_node version (plain_of node) node.now (plain_opening version node (inr two) c.in-Some-node_from.ensures.some.0))
    (no_group version (plain_of node) node.now _ two c.in_default-group_from.ensures.none)

pub returns-in_default-quantum_from-clause-fault : goal.returns-in_default-quantum_from-clause-fault
returns-in_default-quantum_from-clause-fault c =
    let version = c.in-Some.version in
    let node = c.in-Some-node_from.node in
    let group = c.in-Some-group_from.group in
    let two = known_second version c.in-Some.ensures.some.0 c.if-version-eq1.false in
    fault_here c.args.text.now c.in-Some-group_from.fourth (version_line version ∷ node_line (plain_of node) node.now ∷ group_line group ∷ []) c.requires
    c.in-Some-group_from.ensures.ahead
    (c.first_place-first.ensures.counting ∙ c.in-Some.ensures.some.1
    ∙ ap (λ (ls : List (List ℕ)). version_line version ∷ ls)
    (c.in-Some-node_from.ensures.some.1 ∙ ap (λ (ls : List (List ℕ)). node_line (plain_of node) node.now ∷ ls) c.in-Some-group_from.ensures.some.1))
    (starts_group version (config_of node group (pos 4_000_000)) node.now two
    (group_opening version node group two c.in-Some-node_from.ensures.some.0 c.in-Some-group_from.ensures.some.0))
    (no_quantum version group (plain_of node) node.now _ two c.in_default-quantum_from.ensures.none)

pub returns-clause-front : goal.returns-clause-front
returns-clause-front c =
    let quantum = c.in-Some-quantum_from.quantum in
    let range = c.in-Some-quantum_from.ensures.some.0 in
    rw (stored quantum (2 ^ 40) range.0 range.1 (omega arith))
    (front_of_second c.args.text.now c.in-Some.version c.in-Some-node_from.node c.in-Some-group_from.group quantum c.in-Some-quantum_from.behind _ _ _ _
    c.in-Some-quantum_from.ensures.ahead (known_second c.in-Some.version c.in-Some.ensures.some.0 c.if-version-eq1.false)
    c.in-Some-node_from.ensures.some.0 c.in-Some-group_from.ensures.some.0 range
    c.first_place-first.ensures.counting c.in-Some.ensures.some.1 c.in-Some-node_from.ensures.some.1 c.in-Some-group_from.ensures.some.1
    c.in-Some-quantum_from.ensures.some.1)
