-- Scripts: how far a text is one, and where it stops to be one.
use Rattle.std.proofs.Common.{◌≡◌, inl, inr, refl, sym, ◌∙◌, ap, subst, arith, rules, ℤ, pos, ℕ, ◌+◌, ◌-◌, ◌<◌, ◌≤◌, ◌^◌, Bool, true, false, if◌then◌else◌, nat_eq, List, [], ◌∷◌, ◌++◌, length, map}
use Rattle.std.specs.List.{All, flat_map}
use Rattle.std.proofs.lemmas.Int.{ints}
use Rattle.std.proofs.lemmas.List.{append_assoc, append-nil}
use Rattle.std.proofs.lemmas.List.Concat.{flat_map-cons}
use Rattle.std.proofs.lemmas.List.Elements.{All-head, All-nil, All-push}
use Rattle.lk_base.specs.Endpoint.{IsEndpoint}
use Rattle.lk_base.specs.Ranges.{IsQuantum}
use Rattle.lk_base.specs.declared.endpoint.Endpoint.{Endpoint}
use Rattle.link_node.specs.Config.{ConfigValue, GateValue}
use Rattle.link_node.specs.Event.{EventValue, audio_after}
use Rattle.link_lines.specs.Lines.{lines_of, counting_in}
use Rattle.link_text.specs.declared.head_read.Node.{Node}
use Rattle.link_text.specs.declared.place.Place.{Place}
use Rattle.link_text.specs.HeadParts.{config_of, plain_of, IsFront, IsKnownVersion, IsNode, IsOpening, LacksTo, LacksGate, AreFull}
use Rattle.link_text.specs.Places.{IsAhead, AreOfVersion, IsOfVersion, HasEvents, HasBadEvent, counting_from, audio_of}
use Rattle.link_script.specs.ReplayScript.{IsHead, IsGate, IsEventLine, AreEventLines, IsSomeScript, IsLineFault, IsChecked, IsVersion, version_line, node_line, group_line, quantum_line, profile_lines, gate_lines, head_lines, gate_line, to_line}
use Rattle.link_text.proofs.FirstFaultLemmas as faults
use Rattle.link_text.proofs.FirstFaultLemmas.{IsCounted, BeginAlike, alike_first, line_fault}
use Rattle.link_text.proofs.HeadLemmas.{lacks_gate_as, AreOneNode, node_one, group_one, quantum_one, version_one, gates_one, opened, gate_no_to, events_no_gate, events_no_to, full_events}
use Rattle.link_text.proofs.EventUniqueLemmas.{event_among, events_push, plain_push, audio_push}

-- ---- how lines go on to a script

-- the lines that count are those of a script
pub record SaysScript (lines : List (List ℕ)) : Type 0 where
  pub version : ℕ
  pub config : ConfigValue
  pub now : ℤ
  pub es : List EventValue
  pub rest : List (List ℕ)
  pub known : IsVersion version config
  pub head : IsHead config now
  pub lines_are : lines ≡ head_lines version config now ++ rest
  pub events : AreEventLines (length config.gates) 0 rest es
  pub plain : AreOfVersion version es

script_counted : IsCounted IsSomeScript SaysScript
script_counted = record {
  says = λ lines (version, config, now, es, s). record {
    version = version;
    config = config;
    now = now;
    es = es;
    rest = s.rest;
    known = s.known;
    head = s.head;
    lines_are = s.said;
    events = s.events;
    plain = s.plain;
  };
  is_text = λ lines s. (
    s.version,
    s.config,
    s.now,
    s.es,
    record { known = s.known; head = s.head; rest = s.rest; said = s.lines_are; events = s.events; plain = s.plain },
  );
}

abbrev Continues : List (List ℕ) → List (List ℕ) → Type 0
Continues said more = SaysScript (said ++ more)

abbrev pub Starts : List (List ℕ) → Type 0
Starts said = faults.Starts SaysScript said

pub fault_here : (text : List ℕ) (place : Place) (said : List (List ℕ)) → length text ≤ 2 ^ 32 - 2 → (ahead : IsAhead text place)
    → counting_in (lines_of text) ≡ said ++ counting_from text place.at → Starts said
    → ((more : List (List ℕ)) → BeginAlike (counting_from text place.at) more → Continues said more → ⊥)
    → IsLineFault text place.number
fault_here text place said short ahead is starts none =
    line_fault IsSomeScript SaysScript text place said script_counted short ahead is starts none

-- ---- lines of heads

head_same : (x : List ℕ) (xs : List (List ℕ)) (y : List ℕ) (ys : List (List ℕ)) → x ∷ xs ≡ y ∷ ys → x ≡ y
head_same x xs y ys same = cc

tail_same : (x : List ℕ) (xs : List (List ℕ)) (y : List ℕ) (ys : List (List ℕ)) → x ∷ xs ≡ y ∷ ys → xs ≡ ys
tail_same x xs y ys same = cc

head_open : (version : ℕ) (config : ConfigValue) (now : ℤ)
    → head_lines version config now ≡ version_line version ∷ node_line config now ∷ (profile_lines version config ++ flat_map gate_lines config.gates)
unfolding head_lines
head_open version config now = refl

-- and what is behind them
head_whole : (version : ℕ) (config : ConfigValue) (now : ℤ) (rest : List (List ℕ))
    → head_lines version config now ++ rest
    ≡ version_line version ∷ node_line config now ∷ (profile_lines version config ++ (flat_map gate_lines config.gates ++ rest))
head_whole version config now rest =
    ap (λ (ls : List (List ℕ)). ls ++ rest) (head_open version config now)
    ∙ ap (λ (ls : List (List ℕ)). version_line version ∷ node_line config now ∷ ls) (append_assoc (profile_lines version config) (flat_map gate_lines config.gates) rest)

-- what stands behind the lines of the group and of the quantum
abbrev behind_profile : (lines : List (List ℕ)) → SaysScript lines → List (List ℕ)
behind_profile lines goes = flat_map gate_lines goes.config.gates ++ goes.rest

whole : (lines : List (List ℕ)) (goes : SaysScript lines)
    → lines ≡ version_line goes.version ∷ node_line goes.config goes.now ∷ (profile_lines goes.version goes.config ++ behind_profile lines goes)
whole lines goes = goes.lines_are ∙ head_whole goes.version goes.config goes.now goes.rest

known_version : (version : ℕ) (config : ConfigValue) → IsVersion version config → IsKnownVersion version
known_version version config (inl one) = inl one.0
known_version version config (inr two) = inr two

pub known_second : (version : ℕ) → IsKnownVersion version → (version ≡ 1 → ⊥) → version ≡ 2
known_second version (inl one) other = absurd (other one)
known_second version (inr two) other = two

-- ---- the lines of the group and of the quantum

-- version 2 has both
profile_two : (version : ℕ) (config : ConfigValue) (rest : List (List ℕ)) → version ≡ 2
    → profile_lines version config ++ rest ≡ group_line config.group ∷ quantum_line config.quantum ∷ rest
profile_two version config rest two = ap (λ (v : ℕ). profile_lines v config ++ rest) two

-- version 1 has neither
profile_none : (version : ℕ) (config : ConfigValue) (rest : List (List ℕ)) → version ≡ 1 → profile_lines version config ++ rest ≡ rest
profile_none version config rest one = ap (λ (v : ℕ). profile_lines v config ++ rest) one

profile_counts : (version : ℕ) (config : ConfigValue) (rest : List (List ℕ)) → counting_in rest ≡ rest
    → counting_in (profile_lines version config ++ rest) ≡ profile_lines version config ++ rest
profile_counts version config rest same = by_test (nat_eq version 1)
  where
    by_test : (t : Bool) → counting_in ((if t then [] else group_line config.group ∷ quantum_line config.quantum ∷ []) ++ rest)
        ≡ (if t then [] else group_line config.group ∷ quantum_line config.quantum ∷ []) ++ rest
    by_test true = same
    by_test false = ap (λ (ls : List (List ℕ)). group_line config.group ∷ quantum_line config.quantum ∷ ls) same

-- what stands behind them goes by the lines
behind_same : (version : ℕ) (c d : ConfigValue) (xs ys : List (List ℕ)) → profile_lines version c ++ xs ≡ profile_lines version d ++ ys → xs ≡ ys
behind_same version c d xs ys same = by_test (nat_eq version 1) same
  where
    by_test : (t : Bool) → (if t then [] else group_line c.group ∷ quantum_line c.quantum ∷ []) ++ xs
        ≡ (if t then [] else group_line d.group ∷ quantum_line d.quantum ∷ []) ++ ys → xs ≡ ys
    by_test true same = same
    by_test false same = tail_same (quantum_line c.quantum) xs (quantum_line d.quantum) ys
        (tail_same (group_line c.group) (quantum_line c.quantum ∷ xs) (group_line d.group) (quantum_line d.quantum ∷ ys) same)

-- and so do the group and the quantum
profile_one : (version : ℕ) (c d : ConfigValue) (now at : ℤ) (xs ys : List (List ℕ)) → IsVersion version c → IsVersion version d → IsHead c now → IsHead d at
    → profile_lines version c ++ xs ≡ profile_lines version d ++ ys → (c.group ≡ d.group) × (c.quantum ≡ d.quantum)
profile_one version c d now at xs ys (inl one) (inl other) is_c is_d same = (one.1 ∙ sym other.1, one.2 ∙ sym other.2)
profile_one version c d now at xs ys (inl one) (inr two) is_c is_d same = absurd (omega (arith, one.0, two))
profile_one version c d now at xs ys (inr two) (inl one) is_c is_d same = absurd (omega (arith, one.0, two))
profile_one version c d now at xs ys (inr two) (inr other) is_c is_d same =
    let both = sym (profile_two version c xs two) ∙ same ∙ profile_two version d ys two in
    let groups = head_same (group_line c.group) (quantum_line c.quantum ∷ xs) (group_line d.group) (quantum_line d.quantum ∷ ys) both in
    let behind = tail_same (group_line c.group) (quantum_line c.quantum ∷ xs) (group_line d.group) (quantum_line d.quantum ∷ ys) both in
    let quanta = head_same (quantum_line c.quantum) xs (quantum_line d.quantum) ys behind in
    (group_one c.group d.group is_c.group is_d.group groups, quantum_one c.quantum d.quantum is_c.opens.quantum is_d.opens.quantum quanta)

-- ---- heads

node_in_head : (config : ConfigValue) (now : ℤ) → IsHead config now → IsNode config now
node_in_head config now is = record {
  id = is.id;
  seed = is.seed;
  fastest = is.opens.fastest;
  slowest = is.opens.slowest;
  moment = is.moment;
}

abbrev pub with_gates : ConfigValue → List GateValue → ConfigValue
with_gates config gates = record {
  id = config.id;
  seed = config.seed;
  mpb = config.mpb;
  sync = config.sync;
  group = config.group;
  quantum = config.quantum;
  gates = gates;
}

pub head_is : (version : ℕ) (config : ConfigValue) (now : ℤ) (gates : List GateValue) → IsOpening version config now
    → 1 ≤ length gates → length gates ≤ 4 → All IsGate gates → IsHead (with_gates config gates) now
head_is version config now gates is some few each = record {
  id = is.node.id;
  seed = is.node.seed;
  group = is.group;
  opens = record { some_gate = some; few_gates = few; fastest = is.node.fastest; slowest = is.node.slowest; quantum = is.quantum };
  gates = each;
  moment = is.node.moment;
}

-- the quantum that a script of version 1 opens a node with
four_beats : IsQuantum (pos 4_000_000)
four_beats = (omega (arith, ints), omega (arith, ints))

pub plain_opening : (version : ℕ) (node : Node) → IsKnownVersion version → IsNode (plain_of node) node.now → IsOpening version (plain_of node) node.now
plain_opening version node (inl one) is = record { known = inl (one, refl, refl); node = is; group = omega arith; quantum = four_beats }
plain_opening version node (inr two) is = record { known = inr two; node = is; group = omega arith; quantum = four_beats }

-- what a node's line can say doesn't go by the group and the quantum
node_with : (node : Node) (group : ℕ) (quantum : ℤ) → IsNode (plain_of node) node.now → IsNode (config_of node group quantum) node.now
node_with node group quantum is =
    record { id = is.id; seed = is.seed; fastest = is.fastest; slowest = is.slowest; moment = is.moment }

pub second_opening : (version : ℕ) (node : Node) (group : ℕ) (quantum : ℤ) → version ≡ 2 → IsNode (plain_of node) node.now → group < 2 ^ 16 → IsQuantum quantum
    → IsOpening version (config_of node group quantum) node.now
second_opening version node group quantum two is small range =
    record { known = inr two; node = node_with node group quantum is; group = small; quantum = range }

pub group_opening : (version : ℕ) (node : Node) (group : ℕ) → version ≡ 2 → IsNode (plain_of node) node.now → group < 2 ^ 16
    → IsOpening version (config_of node group (pos 4_000_000)) node.now
group_opening version node group two is small = second_opening version node group (pos 4_000_000) two is small four_beats

abbrev pub some_gate : GateValue
some_gate = record { local = record { addr = 0; port = 0 }; destinations = [] }

pub some_gate_is : IsGate some_gate
some_gate_is = record { local = (omega arith, omega arith); few = omega arith; destinations = All-nil IsEndpoint }

pub some_gate_lines : flat_map gate_lines (some_gate ∷ []) ≡ gate_line (record { addr = 0; port = 0 }) ∷ []
some_gate_lines = flat_map-cons gate_lines some_gate [] ∙ append-nil (gate_lines some_gate)

abbrev some_node : Node
some_node = record {
  id = record { 0 = 33 ∷ 33 ∷ 33 ∷ 33 ∷ 33 ∷ 33 ∷ 33 ∷ 33 ∷ [] };
  seed = 0;
  mpb = pos 60_060;
  sync = false;
  now = pos 0;
}

some_node_is : IsNode (plain_of some_node) (pos 0)
some_node_is = record {
  id = record { eight = refl; visible = search rules };
  seed = omega arith;
  fastest = omega (arith, ints);
  slowest = omega (arith, ints);
  moment = (omega (arith, ints), omega (arith, ints));
}

-- ---- how a head goes on

-- the lines before the gates, a gate's and no event
goes_on : (version : ℕ) (config : ConfigValue) (now : ℤ) (lines : List (List ℕ)) → IsOpening version config now
    → lines ≡ version_line version ∷ node_line config now ∷ (profile_lines version config ++ gate_line (record { addr = 0; port = 0 }) ∷ [])
    → SaysScript lines
goes_on version config now lines is are = record {
  version = version;
  config = with_gates config (some_gate ∷ []);
  now = now;
  es = [];
  rest = [];
  known = is.known;
  head = head_is version config now (some_gate ∷ []) is (omega arith) (omega arith) (All-push IsGate [] some_gate (All-nil IsGate) some_gate_is);
  lines_are = are ∙ ap (λ (ls : List (List ℕ)). version_line version ∷ node_line config now ∷ (profile_lines version config ++ ls)) (sym some_gate_lines)
      ∙ sym (head_open version (with_gates config (some_gate ∷ [])) now) ∙ sym (append-nil (head_lines version (with_gates config (some_gate ∷ [])) now));
  events = tt;
  plain = λ one. tt;
}

pub starts_none : Starts []
starts_none = record {
  more = version_line 1 ∷ node_line (plain_of some_node) (pos 0) ∷ gate_line (record { addr = 0; port = 0 }) ∷ [];
  goes = goes_on 1 (plain_of some_node) (pos 0) _ (plain_opening 1 some_node (inl refl) some_node_is) refl;
  counts = refl;
}

pub starts_version : (version : ℕ) → IsKnownVersion version → Starts (version_line version ∷ [])
starts_version version known = record {
  more = node_line (plain_of some_node) (pos 0) ∷ (profile_lines version (plain_of some_node) ++ gate_line (record { addr = 0; port = 0 }) ∷ []);
  goes = goes_on version (plain_of some_node) (pos 0) _ (plain_opening version some_node known some_node_is) refl;
  counts = ap (λ (ls : List (List ℕ)). node_line (plain_of some_node) (pos 0) ∷ ls)
      (profile_counts version (plain_of some_node) (gate_line (record { addr = 0; port = 0 }) ∷ []) refl);
}

pub starts_node : (version : ℕ) (config : ConfigValue) (now : ℤ) → IsOpening version config now → Starts (version_line version ∷ node_line config now ∷ [])
starts_node version config now is = record {
  more = profile_lines version config ++ gate_line (record { addr = 0; port = 0 }) ∷ [];
  goes = goes_on version config now _ is refl;
  counts = profile_counts version config (gate_line (record { addr = 0; port = 0 }) ∷ []) refl;
}

pub starts_group : (version : ℕ) (config : ConfigValue) (now : ℤ) → version ≡ 2 → IsOpening version config now
    → Starts (version_line version ∷ node_line config now ∷ group_line config.group ∷ [])
starts_group version config now two is = record {
  more = quantum_line config.quantum ∷ gate_line (record { addr = 0; port = 0 }) ∷ [];
  goes = goes_on version config now _ is
      (ap (λ (ls : List (List ℕ)). version_line version ∷ node_line config now ∷ ls)
      (sym (profile_two version config (gate_line (record { addr = 0; port = 0 }) ∷ []) two)));
  counts = refl;
}

pub starts_front : (version : ℕ) (config : ConfigValue) (now : ℤ) → IsOpening version config now
    → Starts (version_line version ∷ node_line config now ∷ profile_lines version config)
starts_front version config now is = record {
  more = gate_line (record { addr = 0; port = 0 }) ∷ [];
  goes = goes_on version config now _ is refl;
  counts = refl;
}

pub starts_events : (version : ℕ) (config : ConfigValue) (now : ℤ) (lines : List (List ℕ)) (es : List EventValue) → IsVersion version config
    → IsHead config now → AreEventLines (length config.gates) 0 lines es → AreOfVersion version es → Starts (head_lines version config now ++ lines)
starts_events version config now lines es known head are plain = record {
  more = [];
  goes = record {
    version = version;
    config = config;
    now = now;
    es = es;
    rest = lines;
    known = known;
    head = head;
    lines_are = append-nil (head_lines version config now ++ lines);
    events = are;
    plain = plain;
  };
  counts = refl;
}

-- ---- what a script can't go on with

pub no_version : (lines : List (List ℕ)) → ((version : ℕ) (rest : List (List ℕ)) → IsKnownVersion version → lines ≡ version_line version ∷ rest → ⊥)
    → (more : List (List ℕ)) → BeginAlike lines more → Continues [] more → ⊥
no_version lines none more alike goes =
    let there = alike_first lines more (version_line goes.version)
    (node_line goes.config goes.now ∷ (profile_lines goes.version goes.config ++ behind_profile more goes)) alike (whole more goes) in
    none goes.version there.0 (known_version goes.version goes.config goes.known) there.1

-- what stands behind the version line
behind_version : (version : ℕ) (more : List (List ℕ)) (goes : SaysScript (version_line version ∷ more))
    → more ≡ node_line goes.config goes.now ∷ (profile_lines goes.version goes.config ++ behind_profile (version_line version ∷ more) goes)
behind_version version more goes =
    tail_same (version_line version) more (version_line goes.version)
    (node_line goes.config goes.now ∷ (profile_lines goes.version goes.config ++ behind_profile (version_line version ∷ more) goes))
    (whole (version_line version ∷ more) goes)

-- what stands behind the node's line
behind_node : (version : ℕ) (config : ConfigValue) (now : ℤ) (more : List (List ℕ)) → IsKnownVersion version
    → (goes : SaysScript (version_line version ∷ node_line config now ∷ more))
    → (goes.version ≡ version) × (more ≡ profile_lines version goes.config ++ behind_profile (version_line version ∷ node_line config now ∷ more) goes)
behind_node version config now more known goes =
    let lines = version_line version ∷ node_line config now ∷ more in
    let behind = behind_profile lines goes in
    let first = head_same (version_line version) (node_line config now ∷ more) (version_line goes.version)
    (node_line goes.config goes.now ∷ (profile_lines goes.version goes.config ++ behind)) (whole lines goes) in
    let one = version_one goes.version version (known_version goes.version goes.config goes.known) known (sym first) in
    let rest = tail_same (node_line config now) more (node_line goes.config goes.now) (profile_lines goes.version goes.config ++ behind)
    (behind_version version (node_line config now ∷ more) goes) in
    (one, rest ∙ ap (λ (v : ℕ). profile_lines v goes.config ++ behind) one)

pub no_node : (version : ℕ) (lines : List (List ℕ))
    → ((config : ConfigValue) (now : ℤ) (rest : List (List ℕ)) → IsNode config now → lines ≡ node_line config now ∷ rest → ⊥)
    → (more : List (List ℕ)) → BeginAlike lines more → Continues (version_line version ∷ []) more → ⊥
no_node version lines none more alike goes =
    let there = alike_first lines more (node_line goes.config goes.now)
    (profile_lines goes.version goes.config ++ behind_profile (version_line version ∷ more) goes) alike (behind_version version more goes) in
    none goes.config goes.now there.0 (node_in_head goes.config goes.now goes.head) there.1

pub no_group : (version : ℕ) (config : ConfigValue) (now : ℤ) (lines : List (List ℕ)) → version ≡ 2
    → ((group : ℕ) (rest : List (List ℕ)) → group < 2 ^ 16 → lines ≡ group_line group ∷ rest → ⊥)
    → (more : List (List ℕ)) → BeginAlike lines more → Continues (version_line version ∷ node_line config now ∷ []) more → ⊥
no_group version config now lines two none more alike goes =
    let behind = behind_profile (version_line version ∷ node_line config now ∷ more) goes in
    let is : more ≡ group_line goes.config.group ∷ quantum_line goes.config.quantum ∷ behind
    = (behind_node version config now more (inr two) goes).1 ∙ profile_two version goes.config behind two in
    let there = alike_first lines more (group_line goes.config.group) (quantum_line goes.config.quantum ∷ behind) alike is in
    none goes.config.group there.0 goes.head.group there.1

pub no_quantum : (version group : ℕ) (config : ConfigValue) (now : ℤ) (lines : List (List ℕ)) → version ≡ 2
    → ((quantum : ℤ) (rest : List (List ℕ)) → IsQuantum quantum → lines ≡ quantum_line quantum ∷ rest → ⊥)
    → (more : List (List ℕ)) → BeginAlike lines more → Continues (version_line version ∷ node_line config now ∷ group_line group ∷ []) more → ⊥
no_quantum version group config now lines two none more alike goes =
    let behind = behind_profile (version_line version ∷ node_line config now ∷ group_line group ∷ more) goes in
    let is : group_line group ∷ more ≡ group_line goes.config.group ∷ quantum_line goes.config.quantum ∷ behind
    = (behind_node version config now (group_line group ∷ more) (inr two) goes).1 ∙ profile_two version goes.config behind two in
    let there = alike_first lines more (quantum_line goes.config.quantum) behind alike
    (tail_same (group_line group) more (group_line goes.config.group) (quantum_line goes.config.quantum ∷ behind) is) in
    none goes.config.quantum there.0 goes.head.opens.quantum there.1

pub some_first : (gates : List GateValue) (rest : List (List ℕ)) → 1 ≤ length gates → All IsGate gates
    → (e : Endpoint) × (ls : List (List ℕ)) × IsEndpoint e × (flat_map gate_lines gates ++ rest ≡ gate_line e ∷ ls)
some_first [] rest some each = absurd (omega arith)
some_first (g ∷ gates) rest some each =
    (g.local, map to_line g.destinations ++ (flat_map gate_lines gates ++ rest), (All-head IsGate g gates each).local, opened g gates rest)

pub no_gate : (version : ℕ) (config : ConfigValue) (now : ℤ) (lines : List (List ℕ)) → IsKnownVersion version → LacksGate 0 lines
    → (more : List (List ℕ)) → BeginAlike lines more → Continues (version_line version ∷ node_line config now ∷ profile_lines version config) more → ⊥
no_gate version config now lines known (inr full) more alike goes = omega arith
no_gate version config now lines known (inl none) more alike goes =
    let behind = behind_profile (version_line version ∷ node_line config now ∷ (profile_lines version config ++ more)) goes in
    let gates = behind_same version config goes.config more behind (behind_node version config now (profile_lines version config ++ more) known goes).1 in
    let first = some_first goes.config.gates goes.rest goes.head.opens.some_gate goes.head.gates in
    let there = alike_first lines more (gate_line first.0) first.1 alike (gates ∙ first.3) in
    none first.0 there.0 first.2 there.1

-- ---- a head is read in one way

-- only the first line behind the gates counts
lacks_to_alike : (count : ℕ) (x : List ℕ) (xs ys : List (List ℕ)) → LacksTo count (x ∷ xs) → LacksTo count (x ∷ ys)
lacks_to_alike count x xs ys (inl none) = inl (λ e more range same. none e xs range (ap (λ (l : List ℕ). l ∷ xs) (head_same x ys (to_line e) more same)))
lacks_to_alike count x xs ys (inr full) = inr full

pub lacks_gate_alike : (count : ℕ) (x : List ℕ) (xs ys : List (List ℕ)) → LacksGate count (x ∷ xs) → LacksGate count (x ∷ ys)
lacks_gate_alike count x xs ys (inl none) = inl (λ e more range same. none e xs range (ap (λ (l : List ℕ). l ∷ xs) (head_same x ys (gate_line e) more same)))
lacks_gate_alike count x xs ys (inr full) = inr full

pub full_alike : (gates : List GateValue) (x : List ℕ) (xs ys : List (List ℕ)) → AreFull gates (x ∷ xs) → AreFull gates (x ∷ ys)
full_alike [] x xs ys full = tt
full_alike (g ∷ []) x xs ys full = (lacks_to_alike (length g.destinations) x xs ys full.0, tt)
full_alike (g ∷ h ∷ gates) x xs ys full =
    (inl (λ e more range same. gate_no_to h.local e (cc (opened h gates (x ∷ ys), same))), full_alike (h ∷ gates) x xs ys full.1)

-- two heads and what is behind them
pub record AreOneHead (v w : ℕ) (c d : ConfigValue) (now at : ℤ) (xs ys : List (List ℕ)) : Type 0 where
  pub version : v ≡ w
  pub node : AreOneNode c d now at
  pub group : c.group ≡ d.group
  pub quantum : c.quantum ≡ d.quantum
  pub gates : c.gates ≡ d.gates
  pub rest : xs ≡ ys

pub head_one : (v w : ℕ) (c d : ConfigValue) (now at : ℤ) (xs ys : List (List ℕ)) → IsVersion v c → IsVersion w d → IsHead c now → IsHead d at
    → AreFull c.gates xs → AreFull d.gates ys → LacksGate (length c.gates) xs → LacksGate (length d.gates) ys
    → head_lines v c now ++ xs ≡ head_lines w d at ++ ys → AreOneHead v w c d now at xs ys
head_one v w c d now at xs ys known_c known_d is_c is_d full_x full_y lacks_x lacks_y same =
    let gates_x = flat_map gate_lines c.gates ++ xs in
    let gates_y = flat_map gate_lines d.gates ++ ys in
    let lines = sym (head_whole v c now xs) ∙ same ∙ head_whole w d at ys in
    let first = head_same (version_line v) (node_line c now ∷ (profile_lines v c ++ gates_x)) (version_line w) (node_line d at ∷ (profile_lines w d ++ gates_y)) lines in
    let behind = tail_same (version_line v) (node_line c now ∷ (profile_lines v c ++ gates_x)) (version_line w) (node_line d at ∷ (profile_lines w d ++ gates_y)) lines in
    let version = version_one v w (known_version v c known_c) (known_version w d known_d) first in
    let nodes = head_same (node_line c now) (profile_lines v c ++ gates_x) (node_line d at) (profile_lines w d ++ gates_y) behind in
    let profiles : profile_lines v c ++ gates_x ≡ profile_lines v d ++ gates_y
    = tail_same (node_line c now) (profile_lines v c ++ gates_x) (node_line d at) (profile_lines w d ++ gates_y) behind
    ∙ ap (λ (n : ℕ). profile_lines n d ++ gates_y) (sym version) in
    let profile = profile_one v c d now at gates_x gates_y known_c (subst (λ (n : ℕ). IsVersion n d) (sym version) known_d) is_c is_d profiles in
    let one = gates_one 0 c.gates d.gates xs ys is_c.gates is_d.gates (omega (arith, is_c.opens.few_gates)) (omega (arith, is_d.opens.few_gates)) full_x full_y
    (lacks_gate_as (length c.gates) (0 + length c.gates) xs (omega arith) lacks_x) (lacks_gate_as (length d.gates) (0 + length d.gates) ys (omega arith) lacks_y)
    (behind_same v c d gates_x gates_y profiles) in
    record {
      version = version;
      node = node_one c d now at (node_in_head c now is_c) (node_in_head d at is_d) nodes;
      group = profile.0;
      quantum = profile.1;
      gates = one.0;
      rest = one.1;
    }

pub events_lack : (gates audio count : ℕ) (lines : List (List ℕ)) (es : List EventValue) → AreEventLines gates audio lines es → LacksGate count lines
events_lack gates audio count lines es are = inl (λ e more range same. events_no_gate gates audio lines es are e more same)

-- behind events, no line that says none
no_event_in : (v w : ℕ) (c d : ConfigValue) (now at : ℤ) (said xs ys rest : List (List ℕ)) (x : List ℕ) (es fs : List EventValue)
    → IsVersion v c → IsVersion w d → IsHead c now → IsHead d at
    → AreFull c.gates (said ++ x ∷ xs) → LacksGate (length c.gates) (said ++ x ∷ xs)
    → AreEventLines (length c.gates) 0 said es → ((e : EventValue) → IsEventLine (length c.gates) (audio_of 0 es) x e → IsOfVersion v e → ⊥)
    → head_lines v c now ++ (said ++ x ∷ ys) ≡ head_lines w d at ++ rest → AreEventLines (length d.gates) 0 rest fs → AreOfVersion w fs → ⊥
no_event_in v w c d now at said xs ys rest x es fs known_c known_d is_c is_d full lacks are none same all plain =
    let one = head_one v w c d now at (said ++ x ∷ ys) rest known_c known_d is_c is_d (alike_full said full) (full_events d.gates rest (events_no_to (length d.gates) 0 rest fs all))
    (alike_lacks said lacks) (events_lack (length d.gates) 0 (length d.gates) rest fs all) same in
    event_among v (length c.gates) 0 said es x ys fs (omega (arith, is_c.opens.few_gates)) are
    (subst (λ (ls : List (List ℕ)). AreEventLines (length c.gates) 0 ls fs) (sym one.rest)
    (subst (λ (gs : List GateValue). AreEventLines (length gs) 0 rest fs) (sym one.gates) all))
    (subst (λ (n : ℕ). AreOfVersion n fs) (sym one.version) plain) none
  where
    alike_full : (said : List (List ℕ)) → AreFull c.gates (said ++ x ∷ xs) → AreFull c.gates (said ++ x ∷ ys)
    alike_full [] full = full_alike c.gates x xs ys full
    alike_full (l ∷ said) full = full_alike c.gates l (said ++ x ∷ xs) (said ++ x ∷ ys) full

    alike_lacks : (said : List (List ℕ)) → LacksGate (length c.gates) (said ++ x ∷ xs) → LacksGate (length c.gates) (said ++ x ∷ ys)
    alike_lacks [] lacks = lacks_gate_alike (length c.gates) x xs ys lacks
    alike_lacks (l ∷ said) lacks = lacks_gate_alike (length c.gates) l (said ++ x ∷ xs) (said ++ x ∷ ys) lacks

pub no_event : (v : ℕ) (c : ConfigValue) (now : ℤ) (said lines : List (List ℕ)) (x : List ℕ) (xs : List (List ℕ)) (es : List EventValue)
    → IsVersion v c → IsHead c now
    → AreFull c.gates (said ++ lines) → LacksGate (length c.gates) (said ++ lines) → lines ≡ x ∷ xs
    → AreEventLines (length c.gates) 0 said es → ((e : EventValue) → IsEventLine (length c.gates) (audio_of 0 es) x e → IsOfVersion v e → ⊥)
    → (more : List (List ℕ)) → BeginAlike lines more → Continues (head_lines v c now ++ said) more → ⊥
no_event v c now said lines x xs es known is full lacks there are none more (inl (nothing, nor)) goes = differ (sym nothing ∙ there)
  where
    differ : [] ≡ x ∷ xs → ⊥
    differ h = cc
no_event v c now said lines x xs es known is full lacks there are none more (inr (y, zs, bs, first, second)) goes =
    let one : y ≡ x = cc (first, there) in
    let more_is : more ≡ x ∷ bs = second ∙ ap (λ (l : List ℕ). l ∷ bs) one in
    no_event_in v goes.version c goes.config now goes.now said xs bs goes.rest x es goes.es known goes.known is goes.head
    (subst (λ (ls : List (List ℕ)). AreFull c.gates (said ++ ls)) there full)
    (subst (λ (ls : List (List ℕ)). LacksGate (length c.gates) (said ++ ls)) there lacks)
    are none
    (sym (append_assoc (head_lines v c now) said (x ∷ bs)) ∙ ap (λ (ls : List (List ℕ)). (head_lines v c now ++ said) ++ ls) (sym more_is) ∙ goes.lines_are) goes.events goes.plain

-- ---- the whole script

-- the lines before the gates, of either version
front_is : (text : List ℕ) (version : ℕ) (config : ConfigValue) (now : ℤ) (place : Place) (all second third : List (List ℕ))
    → IsAhead text place → IsOpening version config now → counting_in (lines_of text) ≡ all → all ≡ version_line version ∷ second
    → second ≡ node_line config now ∷ third → third ≡ profile_lines version config ++ counting_from text place.at
    → IsFront text version config now place
front_is text version config now place all second third ahead is e0 e1 e2 e3 = record {
  ahead = ahead;
  opening = is;
  said = e0 ∙ e1 ∙ ap (λ (ls : List (List ℕ)). version_line version ∷ ls) (e2 ∙ ap (λ (ls : List (List ℕ)). node_line config now ∷ ls) e3);
}

pub front_of_first : (text : List ℕ) (version : ℕ) (node : Node) (place : Place) (all second : List (List ℕ))
    → IsAhead text place → version ≡ 1 → IsNode (plain_of node) node.now → counting_in (lines_of text) ≡ all → all ≡ version_line version ∷ second
    → second ≡ node_line (plain_of node) node.now ∷ counting_from text place.at → IsFront text version (plain_of node) node.now place
front_of_first text version node place all second ahead one is e0 e1 e2 =
    front_is text version (plain_of node) node.now place all second (counting_from text place.at) ahead (plain_opening version node (inl one) is) e0 e1 e2
    (sym (profile_none version (plain_of node) (counting_from text place.at) one))

pub front_of_second : (text : List ℕ) (version : ℕ) (node : Node) (group : ℕ) (quantum : ℤ) (place : Place) (all second third fourth : List (List ℕ))
    → IsAhead text place → version ≡ 2 → IsNode (plain_of node) node.now → group < 2 ^ 16 → IsQuantum quantum
    → counting_in (lines_of text) ≡ all → all ≡ version_line version ∷ second → second ≡ node_line (plain_of node) node.now ∷ third
    → third ≡ group_line group ∷ fourth → fourth ≡ quantum_line quantum ∷ counting_from text place.at
    → IsFront text version (config_of node group quantum) node.now place
front_of_second text version node group quantum place all second third fourth ahead two is small range e0 e1 e2 e3 e4 =
    front_is text version (config_of node group quantum) node.now place all second third ahead
    (second_opening version node group quantum two is small range) e0 e1 e2
    (e3 ∙ ap (λ (ls : List (List ℕ)). group_line group ∷ ls) e4 ∙ sym (profile_two version (config_of node group quantum) (counting_from text place.at) two))

-- no gate stands behind them
pub no_first_gate : (text : List ℕ) (version : ℕ) (config : ConfigValue) (now : ℤ) (place : Place) → length text ≤ 2 ^ 32 - 2
    → IsFront text version config now place → LacksGate 0 (counting_from text place.at) → IsLineFault text place.number
no_first_gate text version config now place short front lacks =
    fault_here text place (version_line version ∷ node_line config now ∷ profile_lines version config) short front.ahead front.said
    (starts_front version config now front.opening)
    (no_gate version config now (counting_from text place.at) (known_version version config front.opening.known) lacks)

-- the lines of a head and what is behind them
pub head_said : (text : List ℕ) (version : ℕ) (config : ConfigValue) (now : ℤ) (place : Place) (gates : List GateValue) (rest : List (List ℕ))
    → IsFront text version config now place → counting_from text place.at ≡ flat_map gate_lines gates ++ rest
    → counting_in (lines_of text) ≡ head_lines version (with_gates config gates) now ++ rest
head_said text version config now place gates rest front are =
    front.said ∙ ap (λ (ls : List (List ℕ)). version_line version ∷ node_line config now ∷ (profile_lines version config ++ ls)) are
    ∙ sym (head_whole version (with_gates config gates) now rest)

pub checked : (text : List ℕ) (version : ℕ) (config : ConfigValue) (now : ℤ) (place : Place) (es : List EventValue) → IsAhead text place
    → IsVersion version config → IsHead config now
    → counting_in (lines_of text) ≡ head_lines version config now ++ counting_from text place.at
    → AreEventLines (length config.gates) 0 (counting_from text place.at) es → AreOfVersion version es → IsChecked text version config now place.at
checked text version config now place es ahead known head said are plain = record {
  es = es;
  script = record { known = known; head = head; rest = counting_from text place.at; said = said; events = are; plain = plain };
  place = record { before = ahead.before; lines = ahead.lines; within = ahead.within; counts = ahead.stops };
  from = record { few = head.opens.few_gates; within = ahead.within; lines = are };
}

pub bad_event : (text : List ℕ) (version : ℕ) (config : ConfigValue) (now : ℤ) (place bad : Place) (count : ℕ) → length text ≤ 2 ^ 32 - 2
    → IsVersion version config → IsHead config now
    → counting_in (lines_of text) ≡ head_lines version config now ++ counting_from text place.at
    → AreFull config.gates (counting_from text place.at) → LacksGate (length config.gates) (counting_from text place.at)
    → count ≡ length config.gates → HasBadEvent version count text (counting_from text place.at) bad → IsLineFault text bad.number
bad_event text version config now place bad count short known head said full lacks same has =
    let events = subst (λ (n : ℕ). AreEventLines n 0 has.has.events_lines has.has.es) same has.has.events in
    let fault : (e : EventValue) → IsEventLine (length config.gates) (audio_of 0 has.has.es) has.line e → IsOfVersion version e → ⊥
    = λ e says. has.fault e (subst (λ (n : ℕ). IsEventLine n has.audio has.line e) (sym same) (subst (λ (a : ℕ). IsEventLine (length config.gates) a has.line e) (sym has.has.last) says)) in
    fault_here text bad (head_lines version config now ++ has.has.events_lines) short has.ahead
    (said ∙ ap (λ (ls : List (List ℕ)). head_lines version config now ++ ls) has.has.said
    ∙ sym (append_assoc (head_lines version config now) has.has.events_lines (counting_from text bad.at)))
    (starts_events version config now has.has.events_lines has.has.es known head events has.has.plain)
    (no_event version config now has.has.events_lines (counting_from text bad.at) has.line (counting_from text has.next.at) has.has.es known head
    (subst (λ (ls : List (List ℕ)). AreFull config.gates ls) has.has.said full)
    (subst (λ (ls : List (List ℕ)). LacksGate (length config.gates) ls) has.has.said lacks)
    has.there.counting events fault)

-- ---- events one by one

pub events_none : (version gates : ℕ) (lines : List (List ℕ)) → HasEvents version gates lines 0 lines
events_none version gates lines = record { es = []; events_lines = []; said = refl; events = tt; plain = λ one. tt; last = refl }

pub events_more : (version gates : ℕ) (lines : List (List ℕ)) (audio after : ℕ) (here rest : List (List ℕ)) (line : List ℕ) (e : EventValue)
    → HasEvents version gates lines audio here → here ≡ line ∷ rest → IsEventLine gates audio line e → IsOfVersion version e → after ≡ audio_after audio e
    → HasEvents version gates lines after rest
events_more version gates lines audio after here rest line e has is says plain next = record {
  es = has.es ++ e ∷ [];
  events_lines = has.events_lines ++ line ∷ [];
  said = has.said ∙ ap (λ (ls : List (List ℕ)). has.events_lines ++ ls) is ∙ sym (append_assoc has.events_lines (line ∷ []) rest);
  events = events_push gates 0 has.events_lines has.es line e has.events (subst (λ (a : ℕ). IsEventLine gates a line e) has.last says);
  plain = plain_push version has.es e has.plain plain;
  last = next ∙ ap (λ (a : ℕ). audio_after a e) has.last ∙ sym (audio_push 0 has.es e);
}

pub events_whole : (version gates : ℕ) (lines : List (List ℕ)) (audio : ℕ) (rest : List (List ℕ)) → HasEvents version gates lines audio rest → rest ≡ []
    → (es : List EventValue) × AreEventLines gates 0 lines es × AreOfVersion version es
events_whole version gates lines audio rest has none = (
  has.es,
  subst (λ (ls : List (List ℕ)). AreEventLines gates 0 ls has.es)
      (sym (has.said ∙ ap (λ (ls : List (List ℕ)). has.events_lines ++ ls) none ∙ append-nil has.events_lines)) has.events,
  has.plain,
)
