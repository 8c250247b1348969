-- The list by limit: which entries end at a moment.
use Rattle.std.proofs.Common.{◌≡◌, ◌⊎◌, ◌+◌, ◌<◌, ◌<ℤ◌, ◌≤ℤ◌, ℕ, suc, ℤ, List, [], ◌∷◌, ◌++◌, length, get_or, take, drop, refl, sym, ap, ◌∙◌, subst, inl, inr, arith}
use Rattle.std.specs.Cmp.{int_ranks}
use Rattle.std.specs.Ordering.{nat_cmp, int_cmp, ordering_then, MatchOrdering}
use Rattle.std.specs.Cmp.Lexicographic.{slice_cmp}
use Rattle.std.specs.declared.cmp.Ordering.{Ordering}
use Rattle.std.specs.declared.cmp.Ordering.TheVariants.{Less, Equal, Greater}
use Rattle.std.proofs.lemmas.Int.{ints}
use Rattle.std.proofs.lemmas.List.{take_more, drop_more}
use Rattle.peer_gateway.specs.Happenings.{Has}
use Rattle.peer_gateway.specs.Order.{entry_order, Rise}
use Rattle.peer_gateway.specs.declared.expiry.Expiry.{Expiry}
use Rattle.peer_gateway.proofs.MemberLemmas.{has_parts, has_from_all}
use Rattle.peer_gateway.proofs.OrderLemmas.{rise_back, split_here}

-- the entries up to the next one end, where it does
pub ended_more : (xs : List Expiry) (n : ℕ) (moment : ℤ) (x : Expiry) → n < length xs → x ≡ get_or xs n x → x.limit ≤ℤ moment
    → ((e : Expiry) → Has (take n xs) e → e.limit ≤ℤ moment) → (e : Expiry) → Has (take (n + 1) xs) e → e.limit ≤ℤ moment
ended_more xs n moment x l read ends all e h =
    elim (has_parts (take n xs) (get_or xs n x ∷ []) e (subst (λ (zs : List Expiry). Has zs e) (take_more xs n x l) h)) as (λ _. e.limit ≤ℤ moment) [
      | inl p ↦ all e p
      | inr q ↦ elim q as (λ _. e.limit ≤ℤ moment)
          [ inl same ↦ subst (λ (z : Expiry). z.limit ≤ℤ moment) (read ∙ same) ends | inr none ↦ absurd none ]
    ]

pub first_less : (a b : Ordering) → ordering_then a b ≡ Less → (a ≡ Less) ⊎ (a ≡ Equal)
first_less Less b e = inl refl
first_less Equal b e = inr refl
first_less Greater b e = absurd (cc)

-- what comes later ends no earlier
pub limit_le : (a b : Expiry) → entry_order a b ≡ Less → a.limit ≤ℤ b.limit
limit_le a b e =
    let ranks : MatchOrdering (int_cmp a.limit b.limit) (a.limit <ℤ b.limit) (a.limit ≡ b.limit) (b.limit <ℤ a.limit) = int_ranks a.limit b.limit in
    elim (first_less (int_cmp a.limit b.limit) (ordering_then (nat_cmp a.gate.0 b.gate.0) (slice_cmp nat_cmp a.id.0 b.id.0)) e)
    as (λ _. a.limit ≤ℤ b.limit) [
      | inl less ↦ let h : a.limit <ℤ b.limit = rw less at ranks in omega (arith, ints)
      | inr same ↦ let h : a.limit ≡ b.limit = rw same at ranks in omega (arith, ints)
    ]

-- from an entry on that doesn't end none does
pub left_from : (xs : List Expiry) (n : ℕ) (moment : ℤ) (x : Expiry) → n < length xs → x ≡ get_or xs n x → Rise entry_order xs
    → moment <ℤ x.limit → (e : Expiry) → Has (drop n xs) e → moment <ℤ e.limit
left_from xs n moment x l read up later e h =
    let rest : Rise entry_order (x ∷ drop (suc n) xs) =
    rise_back entry_order (take n xs) (x ∷ drop (suc n) xs)
    (subst (λ (z : Expiry). Rise entry_order (take n xs ++ z ∷ drop (suc n) xs)) (sym read)
    (subst (λ (zs : List Expiry). Rise entry_order zs) (split_here xs n x l) up)) in
    let same : drop n xs ≡ x ∷ drop (n + 1) xs = drop_more xs n x l ∙ ap (λ z. z ∷ drop (n + 1) xs) (sym read) in
    elim (subst (λ (zs : List Expiry). Has zs e) same h) as (λ _. moment <ℤ e.limit) [
      | inl is ↦ subst (λ (z : Expiry). moment <ℤ z.limit) is later
      | inr k ↦
          let next : n + 1 ≡ suc n = omega arith in
          let le : x.limit ≤ℤ e.limit =
          limit_le x e (has_from_all (λ y. entry_order x y ≡ Less) (drop (suc n) xs) e rest.0
          (subst (λ (m : ℕ). Has (drop m xs) e) next k)) in
          omega (arith, ints)
    ]
