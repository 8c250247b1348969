-- The rule between two sessions.
use Rattle.std.proofs.Common.{◌≡◌, ℤ, pos, ◌<ℤ◌, ◌-ℤ◌, neg_ℤ, Bool, true, ◌&&◌, ◌⊎◌, inl, inr, arith}
use Rattle.std.specs.Prelude.{IsTrue, int_lt}
use Rattle.std.specs.Bool.{Decides}
use Rattle.std.specs.Cmp.Lexicographic.{slice_cmp}
use Rattle.std.specs.Ordering.{is_lt, nat_cmp, ordering_reverse}
use Rattle.std.specs.declared.cmp.Ordering.{Ordering}
use Rattle.std.specs.declared.cmp.Ordering.TheVariants.{Less, Equal, Greater}
use Rattle.std.proofs.lemmas.Bool.Decides.{Decides-and, Decides-or}
use Rattle.std.proofs.lemmas.Cmp.{nat_list_cmp_total}
use Rattle.std.proofs.lemmas.Int.{ints}
use Rattle.ghost_xform.specs.GhostTime.{ghost_of}
use Rattle.lk_base.specs.IdOrder.{id_lt}
use Rattle.lk_base.specs.declared.ids.NodeId.{NodeId}
use Rattle.session_choice.specs.Winning.{lead_of, Wins, wins_over}
use Rattle.session_choice.proofs.BestLemmas.{int_lt-true, true-int_lt}

Decides-int_lt : (a b : ℤ) → Decides (int_lt a b) (a <ℤ b)
Decides-int_lt a b = (int_lt-true a b, true-int_lt a b)

Decides-itself : (b : Bool) → Decides b (IsTrue b)
Decides-itself b = (λ e. e, λ e. e)

regroup : {b : Bool} {P Q R : Type 0} → Decides b ((P × Q) × R) → Decides b (P × Q × R)
regroup is = (λ e. ((is.0 e).0.0, (is.0 e).0.1, (is.0 e).1), λ all. is.1 ((all.0, all.1), all.2))

pub wins_over-decides : (a b : NodeId) (offset other now : ℤ) → Decides (wins_over a offset b other now) (Wins a offset b other now)
unfolding wins_over
wins_over-decides a b offset other now =
    let d : ℤ = lead_of offset other now in
    let half : ℤ = pos 500_000 in
    Decides-or (int_lt half d) ((int_lt (neg_ℤ half) d && int_lt d half) && id_lt a b) (Decides-int_lt half d)
    (regroup
    (Decides-and (int_lt (neg_ℤ half) d && int_lt d half) (id_lt a b)
    (Decides-and (int_lt (neg_ℤ half) d) (int_lt d half) (Decides-int_lt (neg_ℤ half) d) (Decides-int_lt d half))
    (Decides-itself (id_lt a b))))

not_both_less : (o p : Ordering) → o ≡ ordering_reverse p → is_lt o ≡ true → is_lt p ≡ true → ⊥
not_both_less Less Less is first second = cc
not_both_less Less Equal is first second = cc
not_both_less Less Greater is first second = cc
not_both_less Equal p is first second = cc
not_both_less Greater p is first second = cc

id_lt-one_way : (a b : NodeId) → IsTrue (id_lt a b) → IsTrue (id_lt b a) → ⊥
id_lt-one_way a b first second =
    not_both_less (slice_cmp nat_cmp a.0 b.0) (slice_cmp nat_cmp b.0 a.0) (nat_list_cmp_total.antisymm a.0 b.0) first second

-- the rule by two ghost times
abbrev WinsBy : ℤ → ℤ → Type 0 → Type 0
WinsBy g k P = (pos 500_000 <ℤ (g -ℤ k)) ⊎ ((neg_ℤ (pos 500_000) <ℤ (g -ℤ k)) × ((g -ℤ k) <ℤ pos 500_000) × P)

one_way : (g k : ℤ) (P Q : Type 0) → (P → Q → ⊥) → WinsBy g k P → WinsBy k g Q → ⊥
one_way g k P Q not (inl a) (inl b) = omega (arith, ints)
one_way g k P Q not (inl a) (inr (b, c, q)) = omega (arith, ints)
one_way g k P Q not (inr (b, c, p)) (inl a) = omega (arith, ints)
one_way g k P Q not (inr (b, c, p)) (inr (d, e, q)) = not p q

pub wins-one_way : (a b : NodeId) (offset other now : ℤ) → Wins a offset b other now → Wins b other a offset now → ⊥
unfolding lead_of
wins-one_way a b offset other now =
    one_way (ghost_of offset now) (ghost_of other now) (IsTrue (id_lt a b)) (IsTrue (id_lt b a)) (id_lt-one_way a b)
