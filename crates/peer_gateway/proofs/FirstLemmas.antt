-- The first of some rows and the least of some numbers: they are there, and none is before or below them.
use Rattle.std.proofs.Common.{◌≡◌, ◌≤ℤ◌, ℤ, true, false, int_lt, List, [], ◌∷◌, Option, Some, None, refl, sym, ap, ◌∙◌, subst, inl, inr, arith}
use Rattle.std.specs.Prelude.{if◌then◌else◌}
use Rattle.std.specs.Int.{int_min}
use Rattle.std.specs.Option.{option_map_or}
use Rattle.std.specs.Ordering.{is_lt, is_gt, ordering_reverse}
use Rattle.std.specs.declared.cmp.Ordering.{Ordering}
use Rattle.std.specs.declared.cmp.Ordering.TheVariants.{Less, Equal, Greater}
use Rattle.std.proofs.lemmas.Bool.{cases_Bool, cases_cond}
use Rattle.std.proofs.lemmas.Cmp.{upto, tied_itself}
use Rattle.std.proofs.lemmas.Int.{ints, clamps}
use Rattle.peer_gateway.specs.Answers.{least_in, comes_before, first_of}
use Rattle.peer_gateway.specs.Happenings.{Has}
use Rattle.peer_gateway.specs.Order.{row_order}
use Rattle.peer_gateway.specs.declared.row.PeerRow.{PeerRow}
use Rattle.peer_gateway.proofs.KeyLemmas.{row_total}
use Rattle.peer_gateway.proofs.PickLemmas.{before_is}

-- ---- rows

lt_back : (o : Ordering) → is_lt (ordering_reverse o) ≡ is_gt o
lt_back Less = refl
lt_back Equal = refl
lt_back Greater = refl

gt_not_lt : (o : Ordering) → is_lt o ≡ true → is_gt o ≡ false
gt_not_lt Less e = refl
gt_not_lt Equal e = refl
gt_not_lt Greater e = absurd (cc)

-- whether a row comes before another, seen from the other
before_back : (a b : PeerRow) → comes_before a b ≡ is_gt (row_order b a)
before_back a b = before_is a b ∙ ap is_lt (row_total.antisymm a b) ∙ lt_back (row_order b a)

-- a row that comes after none of some rows
abbrev IsUpTo : List PeerRow → PeerRow → Type 0
IsUpTo rows a = (b : PeerRow) → Has rows b → is_gt (row_order a b) ≡ false

up_to_step : (rows : List PeerRow) (row a : PeerRow) → IsUpTo rows a → is_gt (row_order a row) ≡ false → IsUpTo (row ∷ rows) a
up_to_step rows row a rest first b (inl e) = subst (λ (z : PeerRow). is_gt (row_order a z) ≡ false) e first
up_to_step rows row a rest first b (inr h) = rest b h

first_up_to_step : (rows : List PeerRow) (row a : PeerRow) (o : Option PeerRow) → (o ≡ None → rows ≡ [])
    → ((y : PeerRow) → o ≡ Some y → IsUpTo rows y)
    → option_map_or (λ other. if comes_before other row then other else row) o row ≡ a → IsUpTo (row ∷ rows) a
first_up_to_step rows row a None none more e =
    subst (λ (z : PeerRow). IsUpTo (row ∷ rows) z) e
    (up_to_step rows row row (λ b h. absurd (subst (λ (zs : List PeerRow). Has zs b) (none refl) h)) (ap is_gt (tied_itself row_total row)))
first_up_to_step rows row a (Some y) none more e =
    elim (cases_Bool (comes_before y row)) as (λ _. IsUpTo (row ∷ rows) a) [
      | inl t ↦
          let is : y ≡ a = rw t at e in
          subst (λ (z : PeerRow). IsUpTo (row ∷ rows) z) is
          (up_to_step rows row y (more y refl) (gt_not_lt (row_order y row) (sym (before_is y row) ∙ t)))
      | inr f ↦
          let is : row ≡ a = rw f at e in
          let le : is_gt (row_order row y) ≡ false = sym (before_back y row) ∙ f in
          subst (λ (z : PeerRow). IsUpTo (row ∷ rows) z) is
          (up_to_step rows row row (λ b h. upto row_total row y b le (more y refl b h)) (ap is_gt (tied_itself row_total row)))
    ]

pub first_none : (rows : List PeerRow) → first_of rows ≡ None → rows ≡ []
first_none [] e = refl
first_none (row ∷ rows) e = absurd (cc)

first_up_to : (rows : List PeerRow) (a : PeerRow) → first_of rows ≡ Some a → IsUpTo rows a
first_up_to [] a e = absurd (cc)
first_up_to (row ∷ rows) a e = first_up_to_step rows row a (first_of rows) (first_none rows) (first_up_to rows) (cc)

pub none_before : (rows : List PeerRow) (a b : PeerRow) → first_of rows ≡ Some a → Has rows b → comes_before b a ≡ false
none_before rows a b e h = before_back b a ∙ first_up_to rows a e b h

-- ---- numbers

-- a number that is one of some and at most each of them
abbrev IsLeast : List ℤ → ℤ → Type 0
IsLeast numbers m = Has numbers m × ((x : ℤ) → Has numbers x → m ≤ℤ x)

least_bound : (m x : ℤ) (numbers : List ℤ) → m ≤ℤ x → ((z : ℤ) → Has numbers z → m ≤ℤ z) → (z : ℤ) → Has (x ∷ numbers) z → m ≤ℤ z
least_bound m x numbers first rest z (inl e) = subst (λ (y : ℤ). m ≤ℤ y) e first
least_bound m x numbers first rest z (inr h) = rest z h

upto_both : (m y z : ℤ) → m ≤ℤ y → y ≤ℤ z → m ≤ℤ z
upto_both m y z p q = omega (arith, ints)

least_step : (x m : ℤ) (numbers : List ℤ) (o : Option ℤ) → (o ≡ None → numbers ≡ []) → ((y : ℤ) → o ≡ Some y → IsLeast numbers y)
    → option_map_or (int_min x) o x ≡ m → IsLeast (x ∷ numbers) m
least_step x m numbers None none more e =
    (inl e, least_bound m x numbers (omega (arith, ints)) (λ z h. absurd (subst (λ (zs : List ℤ). Has zs z) (none refl) h)))
least_step x m numbers (Some y) none more e =
    let low : m ≤ℤ y = omega (arith, ints, clamps) in
    let rest : IsLeast numbers y = more y refl in (
      elim (cases_cond (int_lt y x) y x m (sym e)) as (λ _. Has (x ∷ numbers) m)
          [ inl s ↦ inr (subst (λ (z : ℤ). Has numbers z) (sym s) rest.0) | inr s ↦ inl (sym s) ],
      least_bound m x numbers (omega (arith, ints, clamps)) (λ z h. upto_both m y z low (rest.1 z h)),
    )

pub least_none : (numbers : List ℤ) → least_in numbers ≡ None → numbers ≡ []
least_none [] e = refl
least_none (x ∷ numbers) e = absurd (cc)

pub is_least : (numbers : List ℤ) (m : ℤ) → least_in numbers ≡ Some m → Has numbers m × ((x : ℤ) → Has numbers x → m ≤ℤ x)
is_least [] m e = absurd (cc)
is_least (x ∷ numbers) m e = least_step x m numbers (least_in numbers) (least_none numbers) (is_least numbers) (cc)
