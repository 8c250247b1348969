-- What a turn is given, by what the port answers.
use Rattle.std.proofs.Common.{◌≡◌, ℕ, ℤ, ◌<◌, ◌≤ℤ◌, ◌<ℤ◌, int_le, if◌then◌else◌, Bool, true, false, [], ◌∷◌, length, Option, refl, sym, ap, subst, ◌∙◌, true≢false, to_z, of_z, w64, FitsSigned, arith}
use Rattle.std.specs.Prelude.{IfSome, Some, None}
use Rattle.std.specs.Int.{int_max}
use Rattle.std.specs.Int.Signed.{le_z}
use Rattle.std.proofs.lemmas.Bool.Decides.{nat_tests}
use Rattle.std.proofs.lemmas.Int.{ints, clamps, to_z-of_z}
use Rattle.arrayvec.specs.ArrayVec.{ArrayVec}
use Rattle.lk_base.specs.Ranges.{IsMoment}
use Rattle.lk_base.specs.declared.endpoint.Endpoint.{Endpoint}
use Rattle.lk_base.specs.declared.endpoint.Gate.{Gate}
use Rattle.lk_outside.specs.Arrivals.{ArrivalValue, Came, Waited}
use Rattle.lk_outside.specs.Contents.{BothTell}
use Rattle.lk_outside.specs.Port.{PortContents, GivesFrom, IsAtClose}
use Rattle.link_shared.specs.declared.got.Got.{Got}
use Rattle.link_shared.specs.declared.got.Got.TheVariants as got
use Rattle.link_live.specs.Journal.{brought_by}
use Rattle.link_live.specs.Running.{HasAsked}
use Rattle.link_live.specs.declared.network.Line.{Line}
use Rattle.link_live.proofs.GrownLemmas.{itself_told, gives_none}
use Rattle.link_live.proofs.HeardLemmas.{clock_none, clock_one}

-- a moment is a number of 64 bits
pub moment_fits : (z : ℤ) → IsMoment z → FitsSigned w64 z
moment_fits z range = grind (arith, ints)

-- the greater of two moments, and tests of two, as they are stored
pub stored_max : (a b r : ℤ) → IsMoment a → IsMoment b → FitsSigned w64 r → r ≡ int_max (to_z w64 (of_z w64 a)) (to_z w64 (of_z w64 b)) → to_z w64 (of_z w64 r) ≡ int_max a b
stored_max a b r first second fits is = to_z-of_z w64 r fits ∙ is ∙ (λ k. int_max (to_z-of_z w64 a (moment_fits a first) k) (to_z-of_z w64 b (moment_fits b second) k))

pub due_test : (due clock : ℤ) → FitsSigned w64 due → IsMoment clock → le_z (to_z w64 (of_z w64 due)) (to_z w64 (of_z w64 clock)) ≡ true → due ≤ℤ clock
due_test due clock fits moment test =
    let plain : le_z due clock ≡ true = subst (λ (x : ℤ × ℤ). le_z x.0 x.1 ≡ true) (λ k. (to_z-of_z w64 due fits k, to_z-of_z w64 clock (moment_fits clock moment) k)) test in
    grind (arith, ints, nat_tests)

pub past_test : (due clock : ℤ) → FitsSigned w64 due → IsMoment clock → le_z (to_z w64 (of_z w64 due)) (to_z w64 (of_z w64 clock)) ≡ false → clock <ℤ due
past_test due clock fits moment test =
    let plain : le_z due clock ≡ false = subst (λ (x : ℤ × ℤ). le_z x.0 x.1 ≡ false) (λ k. (to_z-of_z w64 due fits k, to_z-of_z w64 clock (moment_fits clock moment) k)) test in
    grind (arith, ints, nat_tests)

greatest_moment : (a b : ℤ) → IsMoment a → IsMoment b → IsMoment (int_max a b)
greatest_moment a b first second = (omega (arith, ints, clamps, first.0, second.0), omega (arith, ints, clamps, first.1, second.1))

not_both : (b : Bool) {X : Type 0} → b ≡ false → b ≡ true → X
not_both b no_b yes_b = absurd (true≢false (sym yes_b ∙ no_b))

not_past : {X : Type 0} (a b : ℤ) → a <ℤ b → b ≤ℤ a → X
not_past a b less le = absurd (omega (arith, ints))

none_is_one : {A X : Type 0} (x : A) → [] ≡ x ∷ [] → X
none_is_one x e = absurd (cc e)

some_of_none : {X : Type 0} → 0 < length {A = ArrivalValue} [] → X
some_of_none some = absurd (omega (arith, some))

pub was_due : (gates : ℕ) (due : ℤ) (line : Line) (told : Option PortContents) → due ≤ℤ line.clock → IsMoment line.clock → HasAsked gates due line line told told got.Tick
was_due gates due line told is moment = record {
  arrivals = [];
  one = omega arith;
  grown = itself_told (GivesFrom []) told told refl gives_none;
  clock_is = sym (clock_none line.clock);
  moment = moment;
  gate = tt;
  timely = is;
  ticks = λ _. refl;
  early = λ some. some_of_none some;
  brings = λ arrival e. none_is_one arrival e;
  brings_none = λ _. refl;
  works = λ _ _ _ _. omega arith;
  closed = λ before after. not_both line.closed before after;
  stays_closed = λ e. e;
  stays_failed = λ e. (e, refl);
  full = refl;
}

pub was_unasked : (gates : ℕ) (due : ℤ) (line : Line) (told : Option PortContents) → line.clock <ℤ due → IsMoment line.clock
    → (line.failed ≡ false → line.closed ≡ false → line.full ≡ false → ⊥) → HasAsked gates due line line told told got.Nothing
was_unasked gates due line told early moment cannot = record {
  arrivals = [];
  one = omega arith;
  grown = itself_told (GivesFrom []) told told refl gives_none;
  clock_is = sym (clock_none line.clock);
  moment = moment;
  gate = tt;
  timely = tt;
  ticks = λ le. not_past line.clock due early le;
  early = λ some. some_of_none some;
  brings = λ arrival e. none_is_one arrival e;
  brings_none = λ _. refl;
  works = λ full closed _ failed. absurd (cannot failed closed full);
  closed = λ before after. not_both line.closed before after;
  stays_closed = λ e. e;
  stays_failed = λ e. (e, refl);
  full = refl;
}

pub has_come : (gates : ℕ) (due clock now : ℤ) (line : Line) (told told_then : Option PortContents) (gate : Gate) (from : Endpoint) (bytes : ArrayVec ℕ)
    → line.clock <ℤ due → line.failed ≡ false → line.closed ≡ false → line.full ≡ false → IsMoment line.clock → clock ≡ int_max line.clock now
    → (gate.0 < gates) × IsMoment now → BothTell (GivesFrom (Came gate from bytes.items now ∷ [])) told told_then
    → HasAsked gates due line (record { clock = clock; closed = line.closed; failed = line.failed; full = line.full }) told told_then (got.Datagram gate from bytes)
has_come gates due clock now line told told_then gate from bytes early works comes room moment clock_is answer given = record {
  arrivals = Came gate from bytes.items now ∷ [];
  one = omega arith;
  grown = given;
  clock_is = clock_is ∙ sym (clock_one line.clock (Came gate from bytes.items now));
  moment = subst (λ n. IsMoment n) (sym clock_is) (greatest_moment line.clock now moment answer.1);
  gate = answer.0;
  timely = early;
  ticks = λ le. not_past line.clock due early le;
  early = λ _. (early, room, works);
  brings = λ arrival e. let same : Came gate from bytes.items now ≡ arrival = cc e in ap (λ a. brought_by clock a) same;
  brings_none = λ e. absurd (cc e);
  works = λ _ _ _ _. omega arith;
  closed = λ before after. not_both line.closed before after;
  stays_closed = λ e. e;
  stays_failed = λ e. not_both line.failed works e;
  full = refl;
}

pub has_waited : (gates : ℕ) (due clock now : ℤ) (line : Line) (told told_then : Option PortContents) (brought : Got)
    → line.clock <ℤ due → line.failed ≡ false → line.closed ≡ false → line.full ≡ false → IsMoment line.clock → clock ≡ int_max line.clock now
    → IsMoment now → BothTell (GivesFrom (Waited now ∷ [])) told told_then → FitsSigned w64 due
    → brought ≡ (if int_le (to_z w64 (of_z w64 due)) (to_z w64 (of_z w64 clock)) then got.Tick else got.Nothing)
    → HasAsked gates due line (record { clock = clock; closed = line.closed; failed = line.failed; full = line.full }) told told_then brought
has_waited gates due clock now line told told_then brought early works comes room moment clock_is answer given fits brought_is = by_test (int_le due clock) refl
  where
    is_moment : IsMoment clock
    is_moment = subst (λ n. IsMoment n) (sym clock_is) (greatest_moment line.clock now moment answer)

    brought_by_test : brought ≡ (if int_le due clock then got.Tick else got.Nothing)
    brought_by_test =
        brought_is ∙ (λ k. if int_le (to_z-of_z w64 due fits k) (to_z-of_z w64 clock (moment_fits clock is_moment) k) then got.Tick else got.Nothing)

    at_most : (a b : ℤ) → int_le a b ≡ true → a ≤ℤ b
    at_most a b test = grind (arith, ints, nat_tests)

    on_tick : (kind : Got) → due ≤ℤ clock → kind ≡ got.Tick
        → HasAsked gates due line (record { clock = clock; closed = line.closed; failed = line.failed; full = line.full }) told told_then kind
    on_tick kind le is = subst (λ (k : Got). HasAsked gates due line (record { clock = clock; closed = line.closed; failed = line.failed; full = line.full }) told told_then k) (sym is) (record {
      arrivals = Waited now ∷ [];
      one = omega arith;
      grown = given;
      clock_is = clock_is ∙ sym (clock_one line.clock (Waited now));
      moment = subst (λ n. IsMoment n) (sym clock_is) (greatest_moment line.clock now moment answer);
      gate = tt;
      timely = le;
      ticks = λ _. refl;
      early = λ _. (early, room, works);
      brings = λ arrival e. let same : Waited now ≡ arrival = cc e in ap (λ a. brought_by clock a) same;
      brings_none = λ e. absurd (cc e);
      works = λ _ _ _ _. omega arith;
      closed = λ before after. not_both line.closed before after;
      stays_closed = λ e. e;
      stays_failed = λ e. not_both line.failed works e;
      full = refl;
    })

    on_nothing : (kind : Got) → kind ≡ got.Nothing
        → HasAsked gates due line (record { clock = clock; closed = line.closed; failed = line.failed; full = line.full }) told told_then kind
    on_nothing kind is = subst (λ (k : Got). HasAsked gates due line (record { clock = clock; closed = line.closed; failed = line.failed; full = line.full }) told told_then k) (sym is) (record {
      arrivals = Waited now ∷ [];
      one = omega arith;
      grown = given;
      clock_is = clock_is ∙ sym (clock_one line.clock (Waited now));
      moment = subst (λ n. IsMoment n) (sym clock_is) (greatest_moment line.clock now moment answer);
      gate = tt;
      timely = tt;
      ticks = λ le. not_past line.clock due early le;
      early = λ _. (early, room, works);
      brings = λ arrival e. let same : Waited now ≡ arrival = cc e in ap (λ a. brought_by clock a) same;
      brings_none = λ e. absurd (cc e);
      works = λ _ _ _ _. omega arith;
      closed = λ before after. not_both line.closed before after;
      stays_closed = λ e. e;
      stays_failed = λ e. not_both line.failed works e;
      full = refl;
    })

    by_test : (test : Bool) → int_le due clock ≡ test
        → HasAsked gates due line (record { clock = clock; closed = line.closed; failed = line.failed; full = line.full }) told told_then brought
    by_test true test = on_tick brought (at_most due clock test) (brought_by_test ∙ ap (λ b. if b then got.Tick else got.Nothing) test)
    by_test false test = on_nothing brought (brought_by_test ∙ ap (λ b. if b then got.Tick else got.Nothing) test)

none_left_then : (told told_then : Option PortContents) → BothTell IsAtClose told told_then → IfSome told_then (λ contents. contents.left ≡ [])
none_left_then None None close = tt
none_left_then None (Some b) close = absurd close
none_left_then (Some a) None close = tt
none_left_then (Some a) (Some b) close = ap (λ (c : PortContents). c.left) close.stays ∙ close.none_left

given_at_close : (told told_then : Option PortContents) → BothTell IsAtClose told told_then → BothTell (GivesFrom []) told told_then
given_at_close None None close = tt
given_at_close None (Some b) close = absurd close
given_at_close (Some a) None close = absurd close
given_at_close (Some a) (Some b) close = subst (λ (c : PortContents). GivesFrom [] a c) (sym close.stays) (gives_none a)

pub has_closed : (gates : ℕ) (due : ℤ) (line : Line) (told told_then : Option PortContents)
    → line.clock <ℤ due → line.failed ≡ false → line.closed ≡ false → IsMoment line.clock → BothTell IsAtClose told told_then
    → HasAsked gates due line (record { clock = line.clock; closed = true; failed = line.failed; full = line.full }) told told_then got.Nothing
has_closed gates due line told told_then early works comes moment close = record {
  arrivals = [];
  one = omega arith;
  grown = given_at_close told told_then close;
  clock_is = sym (clock_none line.clock);
  moment = moment;
  gate = tt;
  timely = tt;
  ticks = λ le. not_past line.clock due early le;
  early = λ some. some_of_none some;
  brings = λ arrival e. none_is_one arrival e;
  brings_none = λ _. refl;
  works = λ _ _ open_then _. absurd (true≢false open_then);
  closed = λ _ _. none_left_then told told_then close;
  stays_closed = λ _. refl;
  stays_failed = λ e. not_both line.failed works e;
  full = refl;
}

pub has_failed : (gates : ℕ) (due : ℤ) (line : Line) (told told_then : Option PortContents)
    → line.clock <ℤ due → line.failed ≡ false → IsMoment line.clock → told_then ≡ told
    → HasAsked gates due line (record { clock = line.clock; closed = line.closed; failed = true; full = line.full }) told told_then got.Nothing
has_failed gates due line told told_then early works moment stays = record {
  arrivals = [];
  one = omega arith;
  grown = itself_told (GivesFrom []) told told_then stays gives_none;
  clock_is = sym (clock_none line.clock);
  moment = moment;
  gate = tt;
  timely = tt;
  ticks = λ le. not_past line.clock due early le;
  early = λ some. some_of_none some;
  brings = λ arrival e. none_is_one arrival e;
  brings_none = λ _. refl;
  works = λ _ _ _ failed. absurd (true≢false failed);
  closed = λ before after. not_both line.closed before after;
  stays_closed = λ e. e;
  stays_failed = λ _. (refl, stays);
  full = refl;
}
