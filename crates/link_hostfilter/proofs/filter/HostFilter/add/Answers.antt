use Rattle.std.proofs.Common.{◌≡◌, ℤ, [], ◌∷◌, ◌++◌, length, None, FitsSigned, to_z, of_z, w64, List, ap, sym, subst, ◌∙◌, arith}
use Rattle.std.proofs.lemmas.Int.{to_z-of_z}
use Rattle.lk_base.specs.Ranges.{IsWithinLimit}
use Rattle.link_hostfilter.specs.Fit.{from_oldest}
use Rattle.link_hostfilter.specs.Kept.{AreNear, AreKept, fault_of, last, with_new}
use Rattle.link_hostfilter.specs.declared.pair.Pair.{Pair}
use Rattle.link_hostfilter.proofs.FilterLemmas.{kept_more, staying}
use Rattle.link_hostfilter.proofs.HoldLemmas.{last_room}
use Rattle.link_hostfilter.proofs.LineLemmas.{no_farther}
use Rattle.link_hostfilter.proofs.filter.HostFilter.add.Goals as goal

abbrev pair_at : ℤ → ℤ → Pair
pair_at a b = record { sample = a; host = b }

abbrev pair_read : ℤ → ℤ → Pair
pair_read a b = record { sample = to_z w64 (of_z w64 a); host = to_z w64 (of_z w64 b) }

read_is : (a b : ℤ) → FitsSigned w64 a → FitsSigned w64 b → pair_read a b ≡ pair_at a b
read_is a b f g =
    ap (λ z. pair_at z (to_z w64 (of_z w64 b))) (to_z-of_z w64 a f) ∙ ap (λ z. pair_at a z) (to_z-of_z w64 b g)

-- what is kept once there is room and the new pair is in it
room_kept : (pairs room : List Pair) (a b : ℤ) → FitsSigned w64 a → FitsSigned w64 b → room ≡ last 511 pairs → AreKept pairs
    → IsWithinLimit a → IsWithinLimit b → fault_of (pair_read a b) pairs ≡ None → AreKept (room ++ pair_read a b ∷ [])
room_kept pairs room a b f g e kept sample host none =
    let read = read_is a b f g in
    let free = ap (λ (p : Pair). fault_of p pairs) (sym read) ∙ none in
    subst (λ (xs : List Pair). AreKept (xs ++ pair_read a b ∷ [])) (sym e)
    (subst (λ (p : Pair). AreKept (last 511 pairs ++ p ∷ [])) (sym read) (kept_more (pair_at a b) pairs kept sample host free))

room_new : (pairs room : List Pair) (a b : ℤ) → FitsSigned w64 a → FitsSigned w64 b → room ≡ last 511 pairs → AreKept pairs
    → room ++ pair_read a b ∷ [] ≡ with_new (pair_at a b) pairs
room_new pairs room a b f g e kept =
    ap (λ (xs : List Pair). xs ++ pair_read a b ∷ []) e ∙ ap (λ (p : Pair). last 511 pairs ++ p ∷ []) (read_is a b f g) ∙ sym (staying (pair_at a b) pairs kept.few)

pub keep-requires-clause-room : goal.keep-requires-clause-room
keep-requires-clause-room c =
    let room = ap (λ (xs : List Pair). length xs) c.make_room.ensures in
    let few = last_room c.args.self.now c.fault.ensures.kept.few in
    omega arith

pub keep-requires-clause-kept : goal.keep-requires-clause-kept
keep-requires-clause-kept c =
    room_kept c.args.self.now c.make_room.new.self c.args.sample c.args.host c.ranges.sample c.ranges.host c.make_room.ensures c.fault.ensures.kept c.requires.sample c.requires.host (sym c.fault.ensures.fault ∙ c.in_default.is)

pub returns-clause-kept : goal.returns-clause-kept
returns-clause-kept c =
    c.keep.ensures ∙ room_new c.args.self.now c.make_room.new.self c.args.sample c.args.host c.ranges.sample c.ranges.host c.make_room.ensures c.fault.ensures.kept

pub returns-clause-nearest : goal.returns-clause-nearest
returns-clause-nearest c = λ line other fits positive. no_farther (from_oldest c.keep.new.self) line other fits

pub returns-clause-near : goal.returns-clause-near
returns-clause-near c =
    let kept = room_kept c.args.self.now c.make_room.new.self c.args.sample c.args.host c.ranges.sample c.ranges.host c.make_room.ensures c.fault.ensures.kept c.requires.sample c.requires.host (sym c.fault.ensures.fault ∙ c.in_default.is) in
    subst (λ (xs : List Pair). AreNear xs) (sym c.keep.ensures) kept.near
