-- Which gates and destinations are taken of the parts that name them.
use Rattle.std.proofs.Common.{◌≡◌, inl, inr, ℕ, ◌+◌, ◌<◌, ◌≤◌, Bool, true, false, true≢false, List, [], ◌∷◌, ◌++◌, length, map, take, drop, get_or, codes, All, Some, sym, refl, ap, subst, ◌∙◌, arith}
use mathlib.Core.Bool.{cond}
use Rattle.std.specs.List.{flat_map, slice_get}
use Rattle.std.specs.Str.{bytes_eq}
use Rattle.std.proofs.lemmas.List.{append_assoc, drop-take, flat_map_more, get_or-drop, length-drop, length-map, length-take, map_push, take-append-drop, take-take, take_all, take_more}
use Rattle.std.proofs.lemmas.List.Elements.{All-map, All-push, All-same}
use Rattle.std.proofs.lemmas.List.Sums.{count_by_more_yes, sum_by-append, sum_by-cons, sum_by-take-le}
use Rattle.std.proofs.lemmas.Option.{get_or_from_slice_get, slice_get_within}
use Rattle.std.proofs.lemmas.Slice.Eq.{bytes_eq-Decides}
use Rattle.lk_base.specs.declared.endpoint.Endpoint.{Endpoint}
use Rattle.link_lines.specs.Words.{endpoint_text_of}
use Rattle.link_node.specs.Config.{GateValue}
use Rattle.link_script.specs.ReplayScript.{IsGate}
use Rattle.session_server.specs.Words.{PartValue, SaysGates, gate_parts_of, gates_in, is_named, own_gate, part, spelled_gate, to_part_of}

-- ---- destinations

name_is : (word name : List ℕ) → bytes_eq word name ≡ true → word ≡ name
name_is word name same = (bytes_eq-Decides word name).0 same

-- of two names it isn't the first
is_second : (name first second : List ℕ) (text : List ℕ) → is_named first second (part name text) ≡ true → bytes_eq name first ≡ false
    → bytes_eq name second ≡ true
is_second name first second text named other = rw other at named

pub one_more_to : (parts : List PartValue) (name text : List ℕ) (peers peers_then : List Endpoint) (to : Endpoint) (start k : ℕ)
    → slice_get parts (start + k) ≡ Some (part name text) → is_named (codes "--gate") (codes "--to") (part name text) ≡ true
    → bytes_eq name (codes "--gate") ≡ false → text ≡ endpoint_text_of to → peers_then ≡ peers ++ to ∷ []
    → map to_part_of peers ≡ take k (drop start parts) → map to_part_of peers_then ≡ take (k + 1) (drop start parts)
one_more_to parts name text peers peers_then to start k here named other spelled pushed so_far =
    let within : k < length (drop start parts) = omega (arith, length-drop start parts, slice_get_within parts (start + k) (part name text) here) in
    let read : get_or (drop start parts) k (part name text) ≡ part name text =
    get_or-drop start parts k (part name text) ∙ get_or_from_slice_get parts (start + k) (part name text) (part name text) here in
    let is : part name text ≡ to_part_of to =
    ap (λ (n : List ℕ). part n text) (name_is name (codes "--to") (is_second name (codes "--gate") (codes "--to") text named other))
    ∙ ap (λ (t : List ℕ). part (codes "--to") t) spelled in
    ap (map to_part_of) pushed
    ∙ map_push to_part_of peers to
    ∙ ap (λ (l : List PartValue). l ++ to_part_of to ∷ []) so_far
    ∙ ap (λ (p : PartValue). take k (drop start parts) ++ p ∷ []) (sym (read ∙ is))
    ∙ sym (take_more (drop start parts) k (part name text) within)

-- no destination is a gate
pub tos_are_no_gates : (peers : List Endpoint) → All (λ given. bytes_eq given.name (codes "--gate") ≡ false) (map to_part_of peers)
tos_are_no_gates peers = All-map (λ given. bytes_eq given.name (codes "--gate") ≡ false) to_part_of peers (λ k d within. refl)

-- 32 destinations, and then one that is no gate
pub too_many_tos : (parts : List PartValue) (given : PartValue) (peers : List Endpoint) (start : ℕ) → slice_get parts (start + length peers) ≡ Some given
    → length peers ≡ 32 → bytes_eq given.name (codes "--gate") ≡ false → map to_part_of peers ≡ take (length peers) (drop start parts)
    → (start + 33 ≤ length parts) × All (λ given. bytes_eq given.name (codes "--gate") ≡ false) (take 33 (drop start parts))
too_many_tos parts given peers start here full other so_far =
    let there : slice_get parts (start + 32) ≡ Some given = ap (λ (k : ℕ). slice_get parts (start + k)) (sym full) ∙ here in
    let inside : start + 32 < length parts = slice_get_within parts (start + 32) given there in
    let within : 32 < length (drop start parts) = omega (arith, length-drop start parts, inside) in
    let front : map to_part_of peers ≡ take 32 (drop start parts) = so_far ∙ ap (λ (k : ℕ). take k (drop start parts)) full in
    let read : get_or (drop start parts) 32 given ≡ given = get_or-drop start parts 32 given ∙ get_or_from_slice_get parts (start + 32) given given there in
    let all : take 33 (drop start parts) ≡ map to_part_of peers ++ given ∷ [] =
    take_more (drop start parts) 32 given within
    ∙ ap (λ (p : PartValue). take 32 (drop start parts) ++ p ∷ []) read
    ∙ ap (λ (l : List PartValue). l ++ given ∷ []) (sym front) in (
      omega (arith, inside),
      All-same (λ given. bytes_eq given.name (codes "--gate") ≡ false) _ _ all
          (All-push (λ given. bytes_eq given.name (codes "--gate") ≡ false) (map to_part_of peers) given (tos_are_no_gates peers) other),
    )

-- ---- gates

-- so many of the parts were taken as these gates, and the part behind them, if there is one, is a gate
pub record AreTaken (parts : List PartValue) (gates : List GateValue) (number : ℕ) : Type 0 where
  pub taken : flat_map spelled_gate gates ≡ take number parts
  pub within : number ≤ length parts
  pub each : All IsGate gates
  pub next : (given : PartValue) → slice_get parts number ≡ Some given → bytes_eq given.name (codes "--gate") ≡ false → number ≡ 0

take_add : (n m : ℕ) (parts : List PartValue) → take (n + m) parts ≡ take n parts ++ take m (drop n parts)
take_add n m parts =
    sym (take-append-drop n (take (n + m) parts))
    ∙ ap (λ (l : List PartValue). l ++ drop n (take (n + m) parts)) (take-take n (n + m) parts (omega arith))
    ∙ ap (λ (l : List PartValue). take n parts ++ l) (drop-take n m parts)

pub fit_behind : (parts : List PartValue) (peers : List Endpoint) (n : ℕ) → n ≤ length parts → map to_part_of peers ≡ take (length peers) (drop n parts)
    → n + length peers ≤ length parts
fit_behind parts peers n within is =
    omega (arith, within, length-map peers to_part_of, ap length is, length-take (length peers) (drop n parts), length-drop n parts)

pub one_more_gate : (parts : List PartValue) (name text : List ℕ) (gates : List GateValue) (gate : GateValue) (number : ℕ)
    → AreTaken parts gates number → slice_get parts number ≡ Some (part name text) → bytes_eq name (codes "--gate") ≡ true
    → text ≡ endpoint_text_of gate.local → IsGate gate
    → map to_part_of gate.destinations ≡ take (length gate.destinations) (drop (number + 1) parts)
    → ((given : PartValue) → slice_get parts (number + 1 + length gate.destinations) ≡ Some given → bytes_eq given.name (codes "--gate") ≡ true)
    → AreTaken parts (gates ++ gate ∷ []) (number + 1 + length gate.destinations)
unfolding spelled_gate
one_more_gate parts name text gates gate number taken here named spelled is_gate tos stops =
    let count = length gate.destinations in
    let inside : number < length parts = slice_get_within parts number (part name text) here in
    let read : get_or parts number (part name text) ≡ part name text = get_or_from_slice_get parts number (part name text) (part name text) here in
    let is : part name text ≡ part (codes "--gate") (endpoint_text_of gate.local) =
    ap (λ (n : List ℕ). part n text) (name_is name (codes "--gate") named) ∙ ap (λ (t : List ℕ). part (codes "--gate") t) spelled in
    let behind = take count (drop (number + 1) parts) in
    record {
      taken =
          sym (flat_map_more spelled_gate [] gates gate)
          ∙ ap (λ (l : List PartValue). l ++ spelled_gate gate) taken.taken
          ∙ ap (λ (l : List PartValue). take number parts ++ part (codes "--gate") (endpoint_text_of gate.local) ∷ l) tos
          ∙ ap (λ (p : PartValue). take number parts ++ p ∷ behind) (sym (read ∙ is))
          ∙ sym (append_assoc (take number parts) (get_or parts number (part name text) ∷ []) behind)
          ∙ ap (λ (l : List PartValue). l ++ behind) (sym (take_more parts number (part name text) inside))
          ∙ sym (take_add (number + 1) count parts);
      within = fit_behind parts gate.destinations (number + 1) (omega (arith, inside)) tos;
      each = All-push IsGate gates gate taken.each is_gate;
      next = λ given there other. absurd (true≢false (sym (stops given there) ∙ other));
    }

-- ---- how many gates there are

tos_count_none : (peers : List Endpoint) → gates_in (map to_part_of peers) ≡ 0
tos_count_none [] = refl
tos_count_none (peer ∷ peers) =
    let weigh : PartValue → ℕ = λ given. cond (bytes_eq given.name (codes "--gate")) 1 0 in
    let next : gates_in (map to_part_of (peer ∷ peers)) ≡ 0 + gates_in (map to_part_of peers) = sum_by-cons weigh (to_part_of peer) (map to_part_of peers) in
    omega (arith, next, tos_count_none peers)

gates_count : (gates : List GateValue) → gates_in (flat_map spelled_gate gates) ≡ length gates
unfolding spelled_gate
gates_count [] = refl
gates_count (gate ∷ gates) =
    let weigh : PartValue → ℕ = λ given. cond (bytes_eq given.name (codes "--gate")) 1 0 in
    let both : gates_in (flat_map spelled_gate (gate ∷ gates)) ≡ gates_in (spelled_gate gate) + gates_in (flat_map spelled_gate gates) =
    sum_by-append weigh (spelled_gate gate) (flat_map spelled_gate gates) in
    let one : gates_in (spelled_gate gate) ≡ 1 + gates_in (map to_part_of gate.destinations) =
    sum_by-cons weigh (part (codes "--gate") (endpoint_text_of gate.local)) (map to_part_of gate.destinations) in
    omega (arith, both, one, tos_count_none gate.destinations, gates_count gates)

pub too_many_gates : (parts : List PartValue) (given : PartValue) (gates : List GateValue) (number : ℕ) → AreTaken parts gates number
    → slice_get parts number ≡ Some given → bytes_eq given.name (codes "--gate") ≡ true → length gates ≡ 4 → 4 < gates_in parts
too_many_gates parts given gates number taken here named full =
    let test : PartValue → Bool = λ part. bytes_eq part.name (codes "--gate") in
    let inside : number < length parts = slice_get_within parts number given here in
    let read : get_or parts number given ≡ given = get_or_from_slice_get parts number given given here in
    let more : gates_in (take (number + 1) parts) ≡ gates_in (take number parts) + 1 =
    count_by_more_yes test parts number given inside (ap test read ∙ named) in
    let before : gates_in (take number parts) ≡ 4 = ap gates_in (sym taken.taken) ∙ gates_count gates ∙ full in
    let fewer : gates_in (take (number + 1) parts) ≤ gates_in parts = sum_by-take-le (λ (given : PartValue). cond (test given) 1 0) parts (number + 1) in
    omega (arith, more, before, fewer)

-- the first part is no gate
pub stray : (parts : List PartValue) (given : PartValue) (gates : List GateValue) (number : ℕ) → AreTaken parts gates number
    → slice_get parts number ≡ Some given → bytes_eq given.name (codes "--gate") ≡ false → slice_get parts 0 ≡ Some given
stray parts given gates number taken here other = subst (λ (k : ℕ). slice_get parts k ≡ Some given) (taken.next given here other) here

-- ---- the whole

all_taken : (parts : List PartValue) (gates : List GateValue) (number : ℕ) → AreTaken parts gates number → length parts ≤ number
    → parts ≡ flat_map spelled_gate gates
all_taken parts gates number taken past = sym (take_all number parts past) ∙ sym taken.taken

pub none_said : (words : List (List ℕ)) (gates gates_then : List GateValue) (number : ℕ) → AreTaken (gate_parts_of words) gates number
    → length (gate_parts_of words) ≤ number → length gates ≡ 0 → gates_then ≡ gates ++ own_gate ∷ [] → SaysGates words gates_then
none_said words [] gates_then number taken past none pushed = inl (all_taken (gate_parts_of words) [] number taken past, pushed)
none_said words (gate ∷ gates) gates_then number taken past none pushed = absurd (omega (arith, none))

pub some_said : (words : List (List ℕ)) (gates : List GateValue) (number : ℕ) → AreTaken (gate_parts_of words) gates number
    → length (gate_parts_of words) ≤ number → 0 < length gates → SaysGates words gates
some_said words [] number taken past some = absurd (omega (arith, some))
some_said words (gate ∷ gates) number taken past some = inr (gate, gates, refl, all_taken (gate_parts_of words) (gate ∷ gates) number taken past)
