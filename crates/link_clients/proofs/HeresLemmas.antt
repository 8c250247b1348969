-- How many of some seats have a client, one seat after another.
use Rattle.std.proofs.Common.{◌≡◌, ℕ, ◌+◌, ◌<◌, ◌≤◌, Bool, true, false, if◌then◌else◌, List, [], ◌∷◌, ◌++◌, length, take, get_or, refl, sym, ap, ◌∙◌, arith}
use Rattle.std.proofs.lemmas.List.{take_more, take_all}
use Rattle.link_clients.specs.Standing.{heres_in}
use Rattle.link_clients.specs.declared.seat.Seat.{Seat}

plus_assoc : (a b c : ℕ) → a + (b + c) ≡ (a + b) + c
plus_assoc a b c = omega arith

pub heres_none : (seats : List Seat) → 0 ≡ heres_in (take 0 seats)
unfolding heres_in
heres_none seats = refl

heres_last : (seats : List Seat) (seat : Seat) → heres_in (seats ++ seat ∷ []) ≡ heres_in seats + (if seat.here then 1 else 0)
unfolding heres_in
heres_last [] seat = by_here seat.here
  where
    by_here : (b : Bool) → (if b then 1 else 0) + 0 ≡ 0 + (if b then 1 else 0)
    by_here true = refl
    by_here false = refl
heres_last (first ∷ seats) seat =
    ap (λ (n : ℕ). (if first.here then 1 else 0) + n) (heres_last seats seat)
    ∙ plus_assoc (if first.here then 1 else 0) (heres_in seats) (if seat.here then 1 else 0)

pub heres_more : (seats : List Seat) (n : ℕ) (fallback : Seat) (count count_then : ℕ) → n < length seats → count ≡ heres_in (take n seats)
    → count_then ≡ count + (if (get_or seats n fallback).here then 1 else 0) → count_then ≡ heres_in (take (n + 1) seats)
heres_more seats n fallback count count_then less so_far then_is =
    then_is
    ∙ ap (λ (m : ℕ). m + (if (get_or seats n fallback).here then 1 else 0)) so_far
    ∙ sym (ap heres_in (take_more seats n fallback less) ∙ heres_last (take n seats) (get_or seats n fallback))

pub one_at_most : (count count_then n : ℕ) (b : Bool) → count ≤ n → count_then ≡ count + (if b then 1 else 0) → count_then ≤ n + 1
one_at_most count count_then n true few is = omega (arith, few, is)
one_at_most count count_then n false few is = omega (arith, few, is)

pub heres_all : (seats : List Seat) (n count : ℕ) → length seats ≤ n → count ≡ heres_in (take n seats) → count ≡ heres_in seats
heres_all seats n count past is = is ∙ ap heres_in (take_all n seats past)

pub one_is : (seats : List Seat) (n : ℕ) (seat : Seat) (count count_then : ℕ) → seat ≡ get_or seats n seat → count_then ≡ count + (if seat.here then 1 else 0)
    → count_then ≡ count + (if (get_or seats n seat).here then 1 else 0)
one_is seats n seat count count_then at is = is ∙ ap (λ (s : Seat). count + (if s.here then 1 else 0)) at
