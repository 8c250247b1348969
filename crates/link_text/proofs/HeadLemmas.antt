-- The lines of a head.
use Rattle.std.proofs.Common.{◌≡◌, ◌≢◌, ◌⊎◌, inl, inr, refl, sym, ◌∙◌, ap, subst, arith, ℤ, pos, negsuc, ℕ, ◌+◌, ◌<◌, ◌≤◌, ◌^◌, ◌/◌, ◌%◌, true, false, Bool, List, [], ◌∷◌, ◌++◌, length, map, codes, get_or, Option, Some, None, IfSome, IfNone}
use Rattle.std.specs.List.{All, flat_map}
use Rattle.std.specs.Fmt.{decimal, signed_decimal}
use Rattle.std.specs.Int.Signed.{mag}
use Rattle.std.proofs.lemmas.List.{append_assoc, append-nil, length_push}
use Rattle.std.proofs.lemmas.List.Concat.{flat_map-cons}
use Rattle.std.proofs.lemmas.List.Elements.{All-head, All-tail, All-push}
use Rattle.std.proofs.lemmas.Grind.{flat_map-append}
use Rattle.std.proofs.lemmas.Fmt.{decimal_digit, decimal_injective, signed_decimal_injective}
use Rattle.lk_base.specs.Endpoint.{IsEndpoint}
use Rattle.lk_base.specs.Ranges.{IsQuantum, IsWithinLimit}
use Rattle.lk_base.specs.declared.endpoint.Endpoint.{Endpoint}
use Rattle.lk_base.specs.declared.ids.NodeId.{NodeId}
use Rattle.link_node.specs.Config.{ConfigValue, GateValue}
use Rattle.link_node.specs.Event.{EventValue, Rx, Tick, App, Audio, End, moment_of}
use Rattle.link_lines.specs.Words.{joined, dotted, truth_text_of, endpoint_text_of}
use Rattle.link_lines.specs.LineWords.{words_of}
use Rattle.link_text.specs.EventDetails.{kind_of, details_of}
use Rattle.link_script.specs.ReplayScript.{IsVisibleId, IsGate, IsEventLine, AreEventLines, gate_line, gate_lines, group_line, node_line, quantum_line, to_line, version_line}
use Rattle.link_text.specs.declared.head_read.Node.{Node}
use Rattle.link_text.specs.HeadParts.{plain_of, IsKnownVersion, IsNodeLine, IsNode, LacksTo, LacksGate, AreFull, HasDestinations, HasGates}
use Rattle.link_lines.proofs.WordLemmas.{cut_one}
use Rattle.link_lines.proofs.NumberLemmas.{decimal_lacks}
use Rattle.link_text.proofs.EventLemmas.{Lacks, lacks_by_test, number_lacks, signed_lacks, truth_lacks, moment_within, quantum_within, tempo_within, words_joined, joined_words, words_are}

-- ---- endpoints

parts_one : (a b rest more : List ℕ) (m n e : ℕ) → a ≡ decimal m → b ≡ decimal n → m < 2 ^ 64 → n < 2 ^ 64 → (e < 48) ⊎ (57 < e)
    → a ++ e ∷ rest ≡ b ++ e ∷ more → (m ≡ n) × (rest ≡ more)
parts_one a b rest more m n e is_a is_b fits_m fits_n other same =
    let cut = cut_one (decimal m) (decimal n) rest more e (decimal_lacks m e fits_m other) (decimal_lacks n e fits_n other)
    (ap (λ (xs : List ℕ). xs ++ e ∷ rest) (sym is_a) ∙ same ∙ ap (λ (xs : List ℕ). xs ++ e ∷ more) is_b) in
    (decimal_injective m n fits_m fits_n cut.0, cut.1)

-- an address has one list of four bytes
address_one : (x y : ℕ) → x < 2 ^ 32 → y < 2 ^ 32 → x / 256 ^ 3 ≡ y / 256 ^ 3 → x / 256 ^ 2 % 256 ≡ y / 256 ^ 2 % 256
    → x / 256 % 256 ≡ y / 256 % 256 → x % 256 ≡ y % 256 → x ≡ y
address_one x y fits_x fits_y first second third fourth = omega arith

abbrev endpoint_from : ℕ → ℕ → Endpoint
endpoint_from a p = record { addr = a; port = p }

endpoint_same : (e f : Endpoint) → e.addr ≡ f.addr → e.port ≡ f.port → e ≡ f
endpoint_same e f addr port =
    ap (λ (a : ℕ). endpoint_from a e.port) addr ∙ ap (λ (p : ℕ). endpoint_from f.addr p) port

pub endpoint_one : (e f : Endpoint) → IsEndpoint e → IsEndpoint f → endpoint_text_of e ≡ endpoint_text_of f → e ≡ f
unfolding endpoint_text_of dotted
endpoint_one e f range_e range_f same =
    let first = parts_one _ _ _ _ (e.addr / 256 ^ 3) (f.addr / 256 ^ 3) 46 refl refl (omega (arith, range_e.0)) (omega (arith, range_f.0)) (inl (omega arith)) same in
    let second = parts_one _ _ _ _ (e.addr / 256 ^ 2 % 256) (f.addr / 256 ^ 2 % 256) 46 refl refl (omega arith) (omega arith) (inl (omega arith)) first.1 in
    let third = parts_one _ _ _ _ (e.addr / 256 % 256) (f.addr / 256 % 256) 46 refl refl (omega arith) (omega arith) (inl (omega arith)) second.1 in
    let fourth = parts_one _ _ _ _ (e.addr % 256) (f.addr % 256) 58 refl refl (omega arith) (omega arith) (inr (omega arith)) third.1 in
    let port = decimal_injective e.port f.port (omega (arith, range_e.1)) (omega (arith, range_f.1)) fourth.1 in
    endpoint_same e f (address_one e.addr f.addr range_e.0 range_f.0 first.0 second.0 third.0 fourth.0) port

-- ---- lines of a word and of what it is the word for

pub some_said : {A : Type 0} (IsIn : A → Type 0) (text : A → List ℕ) (kind line : List ℕ) (r : Option A)
    → IfSome r (λ a. IsIn a × (words_of line ≡ kind ∷ text a ∷ []))
    → IfSome r (λ a. IsIn a × (line ≡ joined (kind ∷ text a ∷ [])))
some_said IsIn text kind line (Some a) h = (h.0, sym (joined_words line) ∙ ap joined h.1)
some_said IsIn text kind line None h = tt

pub none_said : {A : Type 0} (IsIn : A → Type 0) (text : A → List ℕ) (kind line : List ℕ) (r : Option A) → Lacks kind
    → ((a : A) → IsIn a → Lacks (text a))
    → IfNone r ((a : A) → IsIn a → words_of line ≡ kind ∷ text a ∷ [] → ⊥)
    → IfNone r ((a : A) → IsIn a → line ≡ joined (kind ∷ text a ∷ []) → ⊥)
none_said IsIn text kind line (Some a) lacks text_lacks h = tt
none_said IsIn text kind line None lacks text_lacks h = λ a range same.
    h a range (ap words_of same ∙ words_joined kind (text a ∷ []) (lacks, (text_lacks a range, tt)))

to_one : (e f : Endpoint) → IsEndpoint e → IsEndpoint f → to_line e ≡ to_line f → e ≡ f
to_one e f range_e range_f same = endpoint_one e f range_e range_f (cc same)

gate_one : (e f : Endpoint) → IsEndpoint e → IsEndpoint f → gate_line e ≡ gate_line f → e ≡ f
gate_one e f range_e range_f same = endpoint_one e f range_e range_f (cc same)

-- ---- the lines of the version, of the group and of the quantum

known_small : (version : ℕ) → IsKnownVersion version → version < 10
known_small version (inl one) = omega arith
known_small version (inr two) = omega arith

-- a version of one digit
pub version_said : (version : ℕ) → version < 10 → version_line version ≡ codes "replay " ++ (48 + version) ∷ []
version_said version small = ap (λ (digits : List ℕ). joined (codes "replay" ∷ digits ∷ [])) (decimal_digit version small)

pub version_one : (v w : ℕ) → IsKnownVersion v → IsKnownVersion w → version_line v ≡ version_line w → v ≡ w
version_one v w known_v known_w same =
    let small_v = known_small v known_v in
    let small_w = known_small w known_w in
    decimal_injective v w (omega arith) (omega arith) (cc same)

-- a line of another version
pub version_no : (line : List ℕ) → (line ≡ codes "replay 1" → ⊥) → (line ≡ codes "replay 2" → ⊥)
    → (version : ℕ) → IsKnownVersion version → line ≡ version_line version → ⊥
version_no line first second version (inl one) same = first (same ∙ ap version_line one ∙ version_said 1 (omega arith))
version_no line first second version (inr two) same = second (same ∙ ap version_line two ∙ version_said 2 (omega arith))

pub group_lacks : (group : ℕ) → group < 2 ^ 16 → Lacks (decimal group)
group_lacks group small = number_lacks group (omega arith)

pub group_one : (g h : ℕ) → g < 2 ^ 16 → h < 2 ^ 16 → group_line g ≡ group_line h → g ≡ h
group_one g h small_g small_h same = decimal_injective g h (omega arith) (omega arith) (cc same)

pub quantum_lacks : (n : ℤ) → IsQuantum n → Lacks (signed_decimal n)
quantum_lacks n is = signed_lacks n (quantum_within n is)

pub mag_less : (n : ℤ) → IsWithinLimit n → mag n < 2 ^ 63
mag_less (pos n) h = omega arith
mag_less (negsuc n) h = omega arith

pub quantum_one : (m n : ℤ) → IsQuantum m → IsQuantum n → quantum_line m ≡ quantum_line n → m ≡ n
quantum_one m n is_m is_n same =
    signed_decimal_injective m n (mag_less m (quantum_within m is_m)) (mag_less n (quantum_within n is_n)) (cc same)

-- ---- lines of several kinds

-- they differ in their first two bytes
pub first_differs : (line other : List ℕ) (b d : ℕ) → get_or line 0 0 ≡ b → get_or other 0 0 ≡ d → b ≢ d → line ≡ other → ⊥
first_differs line other b d is_b is_d differ same = differ (sym is_b ∙ ap (λ (xs : List ℕ). get_or xs 0 0) same ∙ is_d)

second_differs : (line other : List ℕ) (b d : ℕ) → get_or line 1 0 ≡ b → get_or other 1 0 ≡ d → b ≢ d → line ≡ other → ⊥
second_differs line other b d is_b is_d differ same = differ (sym is_b ∙ ap (λ (xs : List ℕ). get_or xs 1 0) same ∙ is_d)

pub gate_no_to : (e f : Endpoint) → gate_line e ≡ to_line f → ⊥
gate_no_to e f same = first_differs (gate_line e) (to_line f) 103 116 refl refl (omega arith) same

pub event_no_gate : (gates audio : ℕ) (line : List ℕ) (e : EventValue) (f : Endpoint) → IsEventLine gates audio line e → line ≡ gate_line f → ⊥
event_no_gate gates audio line e f says same = by_kind e says.hex (says.said ∙ ap joined (words_are says.hex e))
  where
    by_kind : (e : EventValue) (hex : List ℕ) → line ≡ joined (kind_of e ∷ signed_decimal (moment_of e) ∷ details_of hex e) → ⊥
    by_kind (Rx gate from bytes now) hex is = first_differs _ (gate_line f) 114 103 refl refl (omega arith) (sym is ∙ same)
    by_kind (Tick now) hex is = first_differs _ (gate_line f) 116 103 refl refl (omega arith) (sym is ∙ same)
    by_kind (App commit now) hex is = first_differs _ (gate_line f) 97 103 refl refl (omega arith) (sym is ∙ same)
    by_kind (Audio number commit now) hex is = first_differs _ (gate_line f) 97 103 refl refl (omega arith) (sym is ∙ same)
    by_kind (End now) hex is = first_differs _ (gate_line f) 101 103 refl refl (omega arith) (sym is ∙ same)

pub event_no_to : (gates audio : ℕ) (line : List ℕ) (e : EventValue) (f : Endpoint) → IsEventLine gates audio line e → line ≡ to_line f → ⊥
event_no_to gates audio line e f says same = by_kind e says.hex (says.said ∙ ap joined (words_are says.hex e))
  where
    by_kind : (e : EventValue) (hex : List ℕ) → line ≡ joined (kind_of e ∷ signed_decimal (moment_of e) ∷ details_of hex e) → ⊥
    by_kind (Rx gate from bytes now) hex is = first_differs _ (to_line f) 114 116 refl refl (omega arith) (sym is ∙ same)
    by_kind (Tick now) hex is = second_differs _ (to_line f) 105 111 refl refl (omega arith) (sym is ∙ same)
    by_kind (App commit now) hex is = first_differs _ (to_line f) 97 116 refl refl (omega arith) (sym is ∙ same)
    by_kind (Audio number commit now) hex is = first_differs _ (to_line f) 97 116 refl refl (omega arith) (sym is ∙ same)
    by_kind (End now) hex is = first_differs _ (to_line f) 101 116 refl refl (omega arith) (sym is ∙ same)

-- ---- destinations

pub lacks_end : (count : ℕ) (lines : List (List ℕ)) → lines ≡ [] → LacksTo count lines
lacks_end count lines none = inl (λ e more range same. cc (none, same))

pub lacks_gate_end : (count : ℕ) (lines : List (List ℕ)) → lines ≡ [] → LacksGate count lines
lacks_gate_end count lines none = inl (λ e more range same. cc (none, same))

-- ---- gates

flat_push : (gs : List GateValue) (g : GateValue) (rest : List (List ℕ))
    → flat_map gate_lines gs ++ (gate_lines g ++ rest) ≡ flat_map gate_lines (gs ++ g ∷ []) ++ rest
flat_push gs g rest =
    sym (append_assoc (flat_map gate_lines gs) (gate_lines g) rest)
    ∙ ap (λ (ls : List (List ℕ)). ls ++ rest) (sym (flat_map-append gate_lines gs (g ∷ []) ∙ ap (λ (ls : List (List ℕ)). flat_map gate_lines gs ++ ls) (single g)))
  where
    single : (g : GateValue) → flat_map gate_lines (g ∷ []) ≡ gate_lines g
    single g = flat_map-cons gate_lines g [] ∙ append-nil (gate_lines g)

full_push : (gs : List GateValue) (g : GateValue) (rest : List (List ℕ)) → AreFull gs (gate_lines g ++ rest)
    → LacksTo (length g.destinations) rest → AreFull (gs ++ g ∷ []) rest
full_push [] g rest full lacks = (lacks, tt)
full_push (h ∷ gs) g rest full lacks =
    (subst (λ (ls : List (List ℕ)). LacksTo (length h.destinations) ls) (flat_push gs g rest) full.0, full_push gs g rest full.1 lacks)

pub gates_more : (lines : List (List ℕ)) (gs : List GateValue) (line : List ℕ) (g : GateValue) (mid behind rest : List (List ℕ))
    → HasGates lines gs mid → mid ≡ line ∷ behind → IsEndpoint g.local → line ≡ gate_line g.local → length gs < 4
    → HasDestinations behind g.destinations rest → LacksTo (length g.destinations) rest
    → HasGates lines (gs ++ g ∷ []) rest
gates_more lines gs line g mid behind rest has is range said room ds lacks =
    let all : mid ≡ gate_lines g ++ rest = is ∙ cc (said, ds.said) in
    let gate : IsGate g = record { local = range; few = ds.few; destinations = ds.each } in
    record {
      each = All-push IsGate gs g has.each gate;
      few = omega (arith, length_push gs g);
      said = has.said ∙ ap (λ (ls : List (List ℕ)). flat_map gate_lines gs ++ ls) all ∙ flat_push gs g rest;
      full = full_push gs g rest (subst (λ (ls : List (List ℕ)). AreFull gs ls) all has.full) lacks;
    }

-- ---- a head is read in one way

lacks_as : (a b : ℕ) (lines : List (List ℕ)) → a ≡ b → LacksTo a lines → LacksTo b lines
lacks_as a b lines same (inl none) = inl none
lacks_as a b lines same (inr full) = inr (omega arith)

pub lacks_gate_as : (a b : ℕ) (lines : List (List ℕ)) → a ≡ b → LacksGate a lines → LacksGate b lines
lacks_gate_as a b lines same (inl none) = inl none
lacks_gate_as a b lines same (inr full) = inr (omega arith)

no_more_to : (n m : ℕ) (lines more : List (List ℕ)) (e : Endpoint) → LacksTo n lines → n < m → m ≤ 32 → IsEndpoint e → lines ≡ to_line e ∷ more → ⊥
no_more_to n m lines more e (inl none) less few range same = none e more range same
no_more_to n m lines more e (inr full) less few range same = omega arith

no_more_gate : (n m : ℕ) (lines more : List (List ℕ)) (e : Endpoint) → LacksGate n lines → n < m → m ≤ 4 → IsEndpoint e → lines ≡ gate_line e ∷ more → ⊥
no_more_gate n m lines more e (inl none) less few range same = none e more range same
no_more_gate n m lines more e (inr full) less few range same = omega arith

pub tos_one : (n : ℕ) (ds es : List Endpoint) (xs ys : List (List ℕ)) → All IsEndpoint ds → All IsEndpoint es
    → n + length ds ≤ 32 → n + length es ≤ 32 → LacksTo (n + length ds) xs → LacksTo (n + length es) ys
    → map to_line ds ++ xs ≡ map to_line es ++ ys → (ds ≡ es) × (xs ≡ ys)
tos_one n [] [] xs ys all_d all_e few_d few_e lacks_x lacks_y same = (refl, same)
tos_one n [] (e ∷ es) xs ys all_d all_e few_d few_e lacks_x lacks_y same =
    absurd (no_more_to (n + length {A = Endpoint} []) (n + length (e ∷ es)) xs (map to_line es ++ ys) e lacks_x (omega arith) few_e (All-head IsEndpoint e es all_e) same)
tos_one n (d ∷ ds) [] xs ys all_d all_e few_d few_e lacks_x lacks_y same =
    absurd (no_more_to (n + length {A = Endpoint} []) (n + length (d ∷ ds)) ys (map to_line ds ++ xs) d lacks_y (omega arith) few_d (All-head IsEndpoint d ds all_d) (sym same))
tos_one n (d ∷ ds) (e ∷ es) xs ys all_d all_e few_d few_e lacks_x lacks_y same =
    let heads : to_line d ≡ to_line e = cc same in
    let tails : map to_line ds ++ xs ≡ map to_line es ++ ys = cc same in
    let one = to_one d e (All-head IsEndpoint d ds all_d) (All-head IsEndpoint e es all_e) heads in
    let rest = tos_one (n + 1) ds es xs ys (All-tail IsEndpoint d ds all_d) (All-tail IsEndpoint e es all_e) (omega arith) (omega arith)
    (lacks_as (n + length (d ∷ ds)) (n + 1 + length ds) xs (omega arith) lacks_x) (lacks_as (n + length (e ∷ es)) (n + 1 + length es) ys (omega arith) lacks_y) tails in
    (cc (one, rest.0), rest.1)

abbrev gate_from : Endpoint → List Endpoint → GateValue
gate_from l ds = record { local = l; destinations = ds }

gate_same : (g h : GateValue) → g.local ≡ h.local → g.destinations ≡ h.destinations → g ≡ h
gate_same g h local destinations =
    ap (λ (l : Endpoint). gate_from l g.destinations) local ∙ ap (λ (ds : List Endpoint). gate_from h.local ds) destinations

pub opened : (g : GateValue) (gs : List GateValue) (xs : List (List ℕ))
    → flat_map gate_lines (g ∷ gs) ++ xs ≡ gate_line g.local ∷ (map to_line g.destinations ++ (flat_map gate_lines gs ++ xs))
opened g gs xs =
    ap (λ (ls : List (List ℕ)). ls ++ xs) (flat_map-cons gate_lines g gs)
    ∙ append_assoc (gate_lines g) (flat_map gate_lines gs) xs

pub gates_one : (k : ℕ) (gs hs : List GateValue) (xs ys : List (List ℕ)) → All IsGate gs → All IsGate hs
    → k + length gs ≤ 4 → k + length hs ≤ 4 → AreFull gs xs → AreFull hs ys → LacksGate (k + length gs) xs → LacksGate (k + length hs) ys
    → flat_map gate_lines gs ++ xs ≡ flat_map gate_lines hs ++ ys → (gs ≡ hs) × (xs ≡ ys)
gates_one k [] [] xs ys all_g all_h few_g few_h full_x full_y lacks_x lacks_y same = (refl, same)
gates_one k [] (h ∷ hs) xs ys all_g all_h few_g few_h full_x full_y lacks_x lacks_y same =
    absurd (no_more_gate (k + length {A = GateValue} []) (k + length (h ∷ hs)) xs _ h.local lacks_x (omega arith) few_h (All-head IsGate h hs all_h).local (same ∙ opened h hs ys))
gates_one k (g ∷ gs) [] xs ys all_g all_h few_g few_h full_x full_y lacks_x lacks_y same =
    absurd (no_more_gate (k + length {A = GateValue} []) (k + length (g ∷ gs)) ys _ g.local lacks_y (omega arith) few_g (All-head IsGate g gs all_g).local (sym same ∙ opened g gs xs))
gates_one k (g ∷ gs) (h ∷ hs) xs ys all_g all_h few_g few_h full_x full_y lacks_x lacks_y same =
    let at_g = All-head IsGate g gs all_g in
    let at_h = All-head IsGate h hs all_h in
    let lines = sym (opened g gs xs) ∙ same ∙ opened h hs ys in
    let heads : gate_line g.local ≡ gate_line h.local = cc lines in
    let local = gate_one g.local h.local at_g.local at_h.local heads in
    let tails : map to_line g.destinations ++ (flat_map gate_lines gs ++ xs) ≡ map to_line h.destinations ++ (flat_map gate_lines hs ++ ys) = cc lines in
    let tos = tos_one 0 g.destinations h.destinations (flat_map gate_lines gs ++ xs) (flat_map gate_lines hs ++ ys) at_g.destinations at_h.destinations
    (omega (arith, at_g.few)) (omega (arith, at_h.few))
    (lacks_as (length g.destinations) (0 + length g.destinations) (flat_map gate_lines gs ++ xs) (omega arith) full_x.0)
    (lacks_as (length h.destinations) (0 + length h.destinations) (flat_map gate_lines hs ++ ys) (omega arith) full_y.0) tails in
    let rest = gates_one (k + 1) gs hs xs ys (All-tail IsGate g gs all_g) (All-tail IsGate h hs all_h) (omega arith) (omega arith) full_x.1 full_y.1
    (lacks_gate_as (k + length (g ∷ gs)) (k + 1 + length gs) xs (omega arith) lacks_x) (lacks_gate_as (k + length (h ∷ hs)) (k + 1 + length hs) ys (omega arith) lacks_y) tos.1 in
    let gate = gate_same g h local tos.0 in
    (cc (gate, rest.0), rest.1)

-- ---- lines of events are no lines of a head

pub events_no_gate : (gates audio : ℕ) (lines : List (List ℕ)) (es : List EventValue) → AreEventLines gates audio lines es
    → (f : Endpoint) (more : List (List ℕ)) → lines ≡ gate_line f ∷ more → ⊥
events_no_gate gates audio [] es are f more same = cc
events_no_gate gates audio (line ∷ lines) [] are f more same = are
events_no_gate gates audio (line ∷ lines) (e ∷ es) are f more same = event_no_gate gates audio line e f are.0 (cc same)

pub events_no_to : (gates audio : ℕ) (lines : List (List ℕ)) (es : List EventValue) → AreEventLines gates audio lines es
    → (f : Endpoint) (more : List (List ℕ)) → lines ≡ to_line f ∷ more → ⊥
events_no_to gates audio [] es are f more same = cc
events_no_to gates audio (line ∷ lines) [] are f more same = are
events_no_to gates audio (line ∷ lines) (e ∷ es) are f more same = event_no_to gates audio line e f are.0 (cc same)

pub full_events : (gs : List GateValue) (rest : List (List ℕ)) → ((f : Endpoint) (more : List (List ℕ)) → rest ≡ to_line f ∷ more → ⊥) → AreFull gs rest
full_events [] rest none = tt
full_events (g ∷ []) rest none = (inl (λ e more range same. none e more same), tt)
full_events (g ∷ h ∷ gs) rest none =
    (inl (λ e more range same. gate_no_to h.local e (cc (opened h gs rest, same))), full_events (h ∷ gs) rest none)

-- ---- a node's line

abbrev id_from : List ℕ → NodeId
id_from xs = record { 0 = xs }

id_lacks : (id : NodeId) → IsVisibleId id → Lacks id.0
id_lacks id is found =
    let at = is.visible found.0 32 found.1 in
    omega (arith, at.0, found.2)

pub truth_one : (s t : Bool) → truth_text_of s ≡ truth_text_of t → s ≡ t
unfolding truth_text_of
truth_one true true same = refl
truth_one false false same = refl
truth_one true false same = absurd (first_differs (49 ∷ []) (48 ∷ []) 49 48 refl refl (omega arith) same)
truth_one false true same = absurd (first_differs (48 ∷ []) (49 ∷ []) 48 49 refl refl (omega arith) same)

pub node_words : (config : ConfigValue) (now : ℤ) → IsNode config now
    → words_of (node_line config now) ≡ codes "node" ∷ config.id.0 ∷ decimal config.seed ∷ signed_decimal config.mpb ∷ truth_text_of config.sync ∷ signed_decimal now ∷ []
node_words config now is =
    words_joined (codes "node") (config.id.0 ∷ decimal config.seed ∷ signed_decimal config.mpb ∷ truth_text_of config.sync ∷ signed_decimal now ∷ []) (
      lacks_by_test (codes "node") refl,
      (
        id_lacks config.id is.id,
        (
          number_lacks config.seed is.seed,
          (
            signed_lacks config.mpb (tempo_within config.mpb is.fastest is.slowest),
            (truth_lacks config.sync, (signed_lacks now (moment_within now is.moment), tt)),
          ),
        ),
      ),
    )

-- what two equal lines of nodes say
pub record AreOneNode (c d : ConfigValue) (now at : ℤ) : Type 0 where
  pub id : c.id ≡ d.id
  pub seed : c.seed ≡ d.seed
  pub mpb : c.mpb ≡ d.mpb
  pub sync : c.sync ≡ d.sync
  pub moment : now ≡ at

pub node_one : (c d : ConfigValue) (now at : ℤ) → IsNode c now → IsNode d at → node_line c now ≡ node_line d at → AreOneNode c d now at
node_one c d now at is_c is_d same =
    let words = sym (node_words c now is_c) ∙ ap words_of same ∙ node_words d at is_d in
    let ids : c.id.0 ≡ d.id.0 = cc words in
    let seeds : decimal c.seed ≡ decimal d.seed = cc words in
    let mpbs : signed_decimal c.mpb ≡ signed_decimal d.mpb = cc words in
    let syncs : truth_text_of c.sync ≡ truth_text_of d.sync = cc words in
    let nows : signed_decimal now ≡ signed_decimal at = cc words in
    record {
      id = ap (λ (xs : List ℕ). id_from xs) ids;
      seed = decimal_injective c.seed d.seed is_c.seed is_d.seed seeds;
      mpb = signed_decimal_injective c.mpb d.mpb (mag_less c.mpb (tempo_within c.mpb is_c.fastest is_c.slowest)) (mag_less d.mpb (tempo_within d.mpb is_d.fastest is_d.slowest)) mpbs;
      sync = truth_one c.sync d.sync syncs;
      moment = signed_decimal_injective now at (mag_less now (moment_within now is_c.moment)) (mag_less at (moment_within at is_d.moment)) nows;
    }

pub some_node : (line : List ℕ) (r : Option Node)
    → IfSome r (λ node. IsNode (plain_of node) node.now × (words_of line
    ≡ codes "node" ∷ node.id.0 ∷ decimal node.seed ∷ signed_decimal node.mpb ∷ truth_text_of node.sync ∷ signed_decimal node.now ∷ []))
    → IfSome r (IsNodeLine line)
some_node line (Some node) h = record { range = h.0; said = sym (joined_words line) ∙ ap joined h.1 }
some_node line None h = tt

pub none_node : (line : List ℕ) (r : Option Node)
    → IfNone r ((config : ConfigValue) (now : ℤ) → IsNode config now → words_of line
    ≡ codes "node" ∷ config.id.0 ∷ decimal config.seed ∷ signed_decimal config.mpb ∷ truth_text_of config.sync ∷ signed_decimal now ∷ [] → ⊥)
    → IfNone r ((config : ConfigValue) (now : ℤ) → IsNode config now → line ≡ node_line config now → ⊥)
none_node line (Some node) h = tt
none_node line None h = λ config now is same. h config now is (ap words_of same ∙ node_words config now is)
