-- Where the lines of gates stand among those of a head.
use Rattle.std.proofs.Common.{◌≡◌, ◌≤◌, ◌<◌, ◌+◌, ◌-◌, ◌++◌, ◌∷◌, [], zero, suc, length, drop, map, get_or, List, ℕ, ap, refl, sym, ◌∙◌, arith, Some, None}
use Rattle.std.specs.Prelude.{slice_get}
use Rattle.std.specs.List.{flat_map}
use Rattle.std.specs.Option.{option_map}
use Rattle.std.proofs.lemmas.List.{drop_more, length-map}
use Rattle.std.proofs.lemmas.List.Concat.{flat_map-cons}
use Rattle.std.proofs.lemmas.Option.{none-some, same_Some, slice_get-get_or, slice_get-map}
use Rattle.link_node.specs.Config.{gate_value}
use Rattle.link_node.specs.declared.config.GateSetup.{GateSetup}
use Rattle.lk_base.specs.declared.endpoint.Endpoint.{Endpoint}
use Rattle.link_script.specs.ReplayScript.{gate_lines, to_line}

-- a place in the first of two lists
pub slice_get_left : {A : Type 0} (xs ys : List A) (i : ℕ) → i < length xs → slice_get (xs ++ ys) i ≡ slice_get xs i
slice_get_left [] ys i h = absurd (omega arith)
slice_get_left (x ∷ xs) ys zero h = refl
slice_get_left (x ∷ xs) ys (suc i) h = slice_get_left xs ys i (omega arith)

-- a place in the second
pub slice_get_right : {A : Type 0} (xs ys : List A) (i : ℕ) → length xs ≤ i → slice_get (xs ++ ys) i ≡ slice_get ys (i - length xs)
slice_get_right [] ys i h =
    let e : i ≡ i - 0 = omega arith in
    ap (λ (k : ℕ). slice_get ys k) e
slice_get_right (x ∷ xs) ys zero h = absurd (omega arith)
slice_get_right (x ∷ xs) ys (suc i) h =
    let e : i - length xs ≡ suc i - suc (length xs) = omega arith in
    slice_get_right xs ys i (omega arith) ∙ ap (λ (k : ℕ). slice_get ys k) e

-- a place behind the first four
pub slice_get_fifth : {A : Type 0} (x y z w : A) (xs : List A) (i : ℕ) → 4 ≤ i → slice_get (x ∷ y ∷ z ∷ w ∷ xs) i ≡ slice_get xs (i - 4)
slice_get_fifth x y z w xs i h = slice_get_right (x ∷ y ∷ z ∷ w ∷ []) xs i h

-- the lines of the gates from the k-th on
abbrev pub lines_from : List GateSetup → ℕ → List (List ℕ)
lines_from gates k = flat_map gate_lines (map gate_value (drop k gates))

-- those of the k-th, and of the gates after it
pub lines_more : (gates : List GateSetup) (k : ℕ) (gate : GateSetup) → k < length gates → get_or gates k gate ≡ gate
    → lines_from gates k ≡ gate_lines (gate_value gate) ++ lines_from gates (k + 1)
lines_more gates k gate h e =
    ap (λ (gs : List GateSetup). flat_map gate_lines (map gate_value gs)) (drop_more gates k gate h ∙ ap (λ (g : GateSetup). g ∷ drop (k + 1) gates) e)
    ∙ flat_map-cons gate_lines (gate_value gate) (map gate_value (drop (k + 1) gates))

-- the line of a destination
pub destination_there : (gate : GateSetup) (ds : List Endpoint) (k : ℕ) (to : Endpoint) (l : List ℕ) → ds ≡ gate.peers.items → 1 ≤ k → k < length (gate_lines (gate_value gate))
    → slice_get (gate_lines (gate_value gate)) k ≡ Some l → to_line (get_or ds (k - 1) to) ≡ l
destination_there gate ds zero to l all some h e = absurd (omega arith)
destination_there gate ds (suc i) to l all some h e =
    let back : suc i - 1 ≡ i = omega arith in
    let within : i < length gate.peers.items = omega (arith, h, length-map gate.peers.items to_line) in
    let there = slice_get-map to_line gate.peers.items i ∙ ap (option_map to_line) (slice_get-get_or gate.peers.items i to within) in
    ap (λ (k : ℕ). to_line (get_or ds k to)) back
    ∙ ap (λ (es : List Endpoint). to_line (get_or es i to)) all
    ∙ same_Some _ _ (sym there ∙ e)

-- a gate has its own line, and one for each destination
pub length-gate_lines : (gate : GateSetup) → length (gate_lines (gate_value gate)) ≡ 1 + length gate.peers.items
length-gate_lines gate = omega (arith, length-map gate.peers.items to_line)

-- a line of the k-th gate
pub gate_here : (gates : List GateSetup) (k left : ℕ) (gate : GateSetup) → k < length gates → gate ≡ get_or gates k gate → left < length (gate_lines (gate_value gate))
    → slice_get (lines_from gates k) left ≡ slice_get (gate_lines (gate_value gate)) left
gate_here gates k left gate h e short =
    ap (λ (ls : List (List ℕ)). slice_get ls left) (lines_more gates k gate h (sym e))
    ∙ slice_get_left (gate_lines (gate_value gate)) (lines_from gates (k + 1)) left short

-- a line of a later gate
pub gate_past : (gates : List GateSetup) (k left lines : ℕ) (gate : GateSetup) → k < length gates → gate ≡ get_or gates k gate → lines ≡ length (gate_lines (gate_value gate)) → lines ≤ left
    → slice_get (lines_from gates k) left ≡ slice_get (lines_from gates (k + 1)) (left - lines)
gate_past gates k left lines gate h e is long =
    ap (λ (ls : List (List ℕ)). slice_get ls left) (lines_more gates k gate h (sym e))
    ∙ slice_get_right (gate_lines (gate_value gate)) (lines_from gates (k + 1)) left (omega (arith, is, long))
    ∙ ap (λ (n : ℕ). slice_get (lines_from gates (k + 1)) (left - n)) (sym is)

-- a line of the k-th gate is there
pub no_gate_past : {A : Type 0} (gates : List GateSetup) (k left : ℕ) (gate : GateSetup) → k < length gates → gate ≡ get_or gates k gate → left < length (gate_lines (gate_value gate))
    → slice_get (lines_from gates k) left ≡ None → A
no_gate_past gates k left gate h e short none =
    absurd (none-some _ (sym none ∙ gate_here gates k left gate h e short ∙ slice_get-get_or (gate_lines (gate_value gate)) left [] short))
