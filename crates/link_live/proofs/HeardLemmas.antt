-- What was heard, one turn after another.
use Rattle.std.proofs.Common.{◌≡◌, ℤ, ◌<◌, ◌≤◌, ◌≤ℤ◌, ◌<ℤ◌, ◌⊎◌, ◌||◌, length, Bool, true, false, List, [], ◌∷◌, ◌++◌, refl, sym, ap, subst, ◌∙◌, inl, ⊎_elim, append_assoc, append-nil, true≢false, arith}
use Rattle.std.specs.Int.{int_max}
use Rattle.std.proofs.lemmas.Int.{ints, clamps}
use Rattle.lk_outside.specs.Arrivals.{ArrivalValue, arrived_at}
use Rattle.link_node.specs.Due.{due_of}
use Rattle.link_node.specs.Event.{EventValue, moment_of}
use Rattle.link_node.specs.Machine.{Machine}
use Rattle.link_node.specs.Runs.{machine_after}
use Rattle.link_live.specs.Journal.{AreAt, AreHeard, brought_by, clock_after, datagram_events_in}
use Rattle.link_live.proofs.JournalLemmas.{all-append, datagram_events_in-append}

pub clock_none : (clock : ℤ) → clock_after clock [] ≡ clock
unfolding clock_after
clock_none clock = refl

pub clock_one : (clock : ℤ) (arrival : ArrivalValue) → clock_after clock (arrival ∷ []) ≡ int_max clock (arrived_at arrival)
unfolding clock_after
clock_one clock arrival = refl

pub clock-append : (clock : ℤ) (arrivals more : List ArrivalValue) → clock_after clock (arrivals ++ more) ≡ clock_after (clock_after clock arrivals) more
unfolding clock_after
clock-append clock [] more = refl
clock-append clock (arrival ∷ arrivals) more = clock-append (int_max clock (arrived_at arrival)) arrivals more

max_first : (a b : ℤ) → a ≤ℤ int_max a b
max_first a b = omega (arith, ints, clamps)

≤ℤ_then : (a b c : ℤ) → a ≤ℤ b → b ≤ℤ c → a ≤ℤ c
≤ℤ_then a b c first second = omega (arith, ints)

pub clock_grows : (clock : ℤ) (arrivals : List ArrivalValue) → clock ≤ℤ clock_after clock arrivals
unfolding clock_after
clock_grows clock [] = omega (arith, ints)
clock_grows clock (arrival ∷ arrivals) =
    ≤ℤ_then clock (int_max clock (arrived_at arrival)) (clock_after (int_max clock (arrived_at arrival)) arrivals)
    (max_first clock (arrived_at arrival)) (clock_grows (int_max clock (arrived_at arrival)) arrivals)

-- more events of the last span, with no datagram among them
pub heard_on : (full : Bool) (m : Machine) (clock : ℤ) (brought : List EventValue) (arrivals : List ArrivalValue) (es more : List EventValue)
    → AreHeard false m clock brought arrivals es → AreAt (clock_after clock arrivals) more → datagram_events_in more ≡ []
    → AreHeard full m clock brought arrivals (es ++ more)
unfolding clock_after
heard_on full m clock brought [] es more heard at none = record {
  at = all-append (λ e. moment_of e ≡ clock) es more heard.at at;
  datagrams =
      inl (datagram_events_in-append es more ∙ ap (λ l. datagram_events_in es ++ l) none ∙ append-nil (datagram_events_in es)
      ∙ ⊎_elim (λ (same : datagram_events_in es ≡ brought). same) (λ (t : (false ≡ true) × (datagram_events_in es ≡ [])). absurd (true≢false (sym t.0))) heard.datagrams);
}
heard_on full m clock brought (arrival ∷ arrivals) es more heard at none =
    let now : ℤ = int_max clock (arrived_at arrival) in (
      heard.0,
      heard.1 ++ more,
      ap (λ l. l ++ more) heard.2 ∙ append_assoc heard.0 heard.1 more,
      heard.3,
      heard.4,
      heard.5,
      heard_on full (machine_after m heard.0) now (brought_by now arrival) arrivals heard.1 more heard.6 at none,
    )

-- one more arrival, where no tick was due, and the events of its span
pub heard_arrival : (full : Bool) (m : Machine) (clock : ℤ) (brought : List EventValue) (arrivals : List ArrivalValue) (arrival : ArrivalValue) (es more : List EventValue)
    → ((n : Machine) (first second : List EventValue) → machine_after n (first ++ second) ≡ machine_after (machine_after n first) second)
    → AreHeard false m clock brought arrivals es → clock_after clock arrivals <ℤ due_of (machine_after m es)
    → AreAt (int_max (clock_after clock arrivals) (arrived_at arrival)) more
    → (datagram_events_in more ≡ brought_by (int_max (clock_after clock arrivals) (arrived_at arrival)) arrival) ⊎ ((full ≡ true) × (datagram_events_in more ≡ []))
    → AreHeard full m clock brought (arrivals ++ arrival ∷ []) (es ++ more)
unfolding clock_after
heard_arrival full m clock brought [] arrival es more law heard early at brings = (
  es,
  more,
  refl,
  heard.at,
  ⊎_elim (λ (same : datagram_events_in es ≡ brought). same) (λ (t : (false ≡ true) × (datagram_events_in es ≡ [])). absurd (true≢false (sym t.0))) heard.datagrams,
  early,
  record { at = at; datagrams = brings },
)
heard_arrival full m clock brought (first ∷ arrivals) arrival es more law heard early at brings =
    let now : ℤ = int_max clock (arrived_at first) in (
      heard.0,
      heard.1 ++ more,
      ap (λ l. l ++ more) heard.2 ∙ append_assoc heard.0 heard.1 more,
      heard.3,
      heard.4,
      heard.5,
      heard_arrival full (machine_after m heard.0) now (brought_by now first) arrivals arrival heard.1 more law heard.6
          (subst (λ (n : Machine). clock_after now arrivals <ℤ due_of n) (ap (λ l. machine_after m l) heard.2 ∙ law m heard.0 heard.1) early) at brings,
    )

-- a turn: what was heard with its arrival, if one came, and its events
pub heard_turn : (full full_turn : Bool) (m : Machine) (at : ℤ) (arrivals new : List ArrivalValue) (es taken : List EventValue)
    → ((n : Machine) (first second : List EventValue) → machine_after n (first ++ second) ≡ machine_after (machine_after n first) second)
    → AreHeard full m at [] arrivals es → length new ≤ 1 → (0 < length new → (clock_after at arrivals <ℤ due_of (machine_after m es)) × (full ≡ false))
    → (full ≡ true → taken ≡ []) → AreAt (clock_after (clock_after at arrivals) new) taken
    → (new ≡ [] → datagram_events_in taken ≡ [])
    → ((arrival : ArrivalValue) → new ≡ arrival ∷ []
    → (datagram_events_in taken ≡ brought_by (clock_after (clock_after at arrivals) new) arrival) ⊎ ((full_turn ≡ true) × (datagram_events_in taken ≡ [])))
    → AreHeard (full || full_turn) m at [] (arrivals ++ new) (es ++ taken)
unfolding clock_after
heard_turn true full_turn m at arrivals [] es taken law heard one early none when brings_none brings =
    subst (λ (l : List ArrivalValue). AreHeard true m at [] l (es ++ taken)) (sym (append-nil arrivals))
    (subst (λ (l : List EventValue). AreHeard true m at [] arrivals l) (sym (ap (λ l. es ++ l) (none refl) ∙ append-nil es)) heard)
heard_turn true full_turn m at arrivals (arrival ∷ new) es taken law heard one early none when brings_none brings =
    absurd (true≢false (early (omega arith)).1)
heard_turn false full_turn m at arrivals [] es taken law heard one early none when brings_none brings =
    subst (λ (l : List ArrivalValue). AreHeard full_turn m at [] l (es ++ taken)) (sym (append-nil arrivals))
    (heard_on full_turn m at [] arrivals es taken heard when (brings_none refl))
heard_turn false full_turn m at arrivals (arrival ∷ []) es taken law heard one early none when brings_none brings =
    heard_arrival full_turn m at [] arrivals arrival es taken law heard (early (omega arith)).0 when (brings arrival refl)
heard_turn false full_turn m at arrivals (arrival ∷ next ∷ new) es taken law heard one early none when brings_none brings = absurd (omega (arith, one))
