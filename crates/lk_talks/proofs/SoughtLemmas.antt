-- What is left of the bytes that a client sends.
use Rattle.std.proofs.Common.{◌≡◌, ◌<◌, ◌≤◌, ◌+◌, ◌-◌, ℕ, List, ◌∷◌, ◌++◌, length, get_or, take, drop, sym, ap, ◌∙◌, arith}
use Rattle.std.proofs.lemmas.List.{at_drop_more, drop-append-le, take-append-le, take-append-drop, take_all, drop-drop, length-drop}
use Rattle.std.proofs.Math.Seq.{drop-append-add}
use Rattle.std.proofs.lemmas.Bool.Decides.{nat_tests}
use Rattle.lk_talks.specs.Steps.{goes_in, sent_in}
use Rattle.lk_talks.specs.declared.step.Step.{Step}
use Rattle.lk_talks.specs.declared.step.Step.TheVariants as step

-- some of the first piece that is left, and then what is left of all
pub piece_taken : (h n : ℕ) (b r : List ℕ) → h ≤ length b → h + n ≤ length b → drop h (b ++ r) ≡ take n (drop h b) ++ drop (h + n) (b ++ r)
piece_taken h n b r inside fits =
    let left = drop-append-le h b r inside in
    let front = take-append-le n (drop h b) r (omega (arith, length-drop h b)) in
    let parted = take-append-drop n (drop h (b ++ r)) in
    let rest = drop-drop n h (b ++ r) in
    cc

-- a first piece that was heard whole
pub piece_passed : (h : ℕ) (b r : List ℕ) → length b ≤ h → drop (h - length b) r ≡ drop h (b ++ r)
piece_passed h b r whole =
    let past = drop-append-add b r (h - length b) in
    let back : length b + (h - length b) ≡ h = omega arith in
    cc

-- what a client sends at a step and behind it
pub sends_at : (steps : List Step) (seat at : ℕ) (x : Step) (other : ℕ) (bytes : _) → at < length steps → x ≡ get_or steps at x → x ≡ step.Sends other bytes → other ≡ seat
    → sent_in seat (drop at steps) ≡ bytes.items ++ sent_in seat (drop (at + 1) steps)
sends_at steps seat at x other bytes inside is sends same =
    let more = at_drop_more (sent_in seat) steps at x inside in
    let here = ap (λ y. sent_in seat (y ∷ drop (at + 1) steps)) (sym is ∙ sends) in
    grind (arith, nat_tests)

-- all that a piece has behind its front
pub whole_rest : (h : ℕ) (r : List ℕ) → take (length r - h) (drop h r) ≡ drop h r
whole_rest h r = take_all (length r - h) (drop h r) (omega (arith, length-drop h r))

-- what is left where a client sends at a step, and whether it goes
pub left_at : (steps : List Step) (seat at h n : ℕ) (x : Step) (other : ℕ) (bytes : _) (r : List ℕ) → at < length steps → x ≡ get_or steps at x → x ≡ step.Sends other bytes
    → other ≡ seat → r ≡ bytes.items → h ≤ length r → n ≤ length (drop h r)
    → drop h (sent_in seat (drop at steps)) ≡ take n (drop h r) ++ drop (h + n) (sent_in seat (drop at steps))
left_at steps seat at h n x other bytes r inside is sends same items heard fits =
    let all = sends_at steps seat at x other bytes inside is sends same in
    let taken = piece_taken h n r (sent_in seat (drop (at + 1) steps)) heard (omega (arith, length-drop h r)) in
    cc

-- a step that isn't of this client's, or whose bytes were heard
pub goes_past : (steps : List Step) (seat at : ℕ) (x : Step) → at < length steps → x ≡ get_or steps at x
    → (sent_in seat (drop at steps) ≡ sent_in seat (x ∷ drop (at + 1) steps)) × (goes_in seat (drop at steps) ≡ goes_in seat (x ∷ drop (at + 1) steps))
goes_past steps seat at x inside is = (
  at_drop_more (sent_in seat) steps at x inside ∙ ap (λ y. sent_in seat (y ∷ drop (at + 1) steps)) (sym is),
  at_drop_more (goes_in seat) steps at x inside ∙ ap (λ y. goes_in seat (y ∷ drop (at + 1) steps)) (sym is),
)
