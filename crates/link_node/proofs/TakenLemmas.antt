-- Which timelines the sessions of a history have taken, call by call.
use Rattle.std.proofs.Common.{◌≡◌, ◌⊎◌, inl, inr, ℤ, Bool, List, [], ◌∷◌, ◌++◌, length, filter, Option, Some, None, refl, sym, ap, ◌∙◌, subst}
use Rattle.std.specs.Prelude.{cond, nat_lt, if◌then◌else◌}
use Rattle.lk_base.specs.IdOrder.{same_id}
use Rattle.lk_base.specs.declared.ids.NodeId.{NodeId}
use Rattle.lk_base.specs.declared.timeline.Timeline.{Timeline}
use Rattle.peer_gateway.specs.Happenings.{Has}
use Rattle.session_choice.specs.History.{Taking, History, session_of, with_taken, begun, is_current, other_in, taken_by, saw_after, joined, measured_by, measured_after, forgotten, committed}
use Rattle.session_choice.specs.Keyed.{found_by, updated_by, without_by}
use Rattle.session_choice.specs.Winning.{wins_over}
use Rattle.peer_gateway.proofs.MemberLemmas.{has_parts}
use Rattle.peer_gateway.proofs.KeyLemmas.{id_from_test}
use Rattle.session_choice.proofs.Lists.{by_test}

abbrev pub known : History → List Taking
known h = h.current ∷ h.others

-- one of these has taken the timeline in the session
abbrev pub Took : List Taking → NodeId → Timeline → Type 0
Took takings session tl = (taking : Taking) × Has takings taking × (taking.session ≡ session) × Has (taking.first ∷ taking.later) tl

-- all takings of the second are of the first
abbrev pub Within : List Taking → List Taking → Type 0
Within more takings = (taking : Taking) → Has takings taking → Has more taking

pub took_within : (more takings : List Taking) → Within more takings → (session : NodeId) (tl : Timeline) → Took takings session tl → Took more session tl
took_within more takings within session tl took = (took.0, within took.0 took.1, took.2, took.3)

-- ---- rows by their ids

found_has : (id : NodeId) (rows : List Taking) (row : Taking) → found_by session_of id rows ≡ Some row → Has rows row
found_has id [] row is = cc
found_has id (r ∷ rows) row is =
    by_test (λ b. (if b then Some r else found_by session_of id rows) ≡ Some row → Has (r ∷ rows) row) (same_id r.session id)
    (λ _ first. inl (let e : r ≡ row = cc in e)) (λ _ more. inr (found_has id rows row more)) is

without_within : (id : NodeId) (rows : List Taking) → Within rows (without_by session_of id rows)
without_within id [] row has = has
without_within id (r ∷ rows) row has =
    by_test (λ b. Has (if b then rows else r ∷ without_by session_of id rows) row → Has (r ∷ rows) row) (same_id r.session id)
    (λ _ more. inr more)
    (λ _ more. elim more as (λ _. Has (r ∷ rows) row) [ inl e ↦ inl e | inr h ↦ inr (without_within id rows row h) ]) has

filter_within : (test : Taking → Bool) (rows : List Taking) → Within rows (filter test rows)
filter_within test [] row has = has
filter_within test (r ∷ rows) row has =
    by_test (λ b. Has (cond b (r ∷ filter test rows) (filter test rows)) row → Has (r ∷ rows) row) (test r)
    (λ _ more. elim more as (λ _. Has (r ∷ rows) row) [ inl e ↦ inl e | inr h ↦ inr (filter_within test rows row h) ])
    (λ _ more. inr (filter_within test rows row more)) has

-- a row that was changed is of the id
pub record Changed (id : NodeId) (change : Taking → Taking) (rows : List Taking) (row : Taking) : Type 0 where
  pub old : Taking
  pub there : Has rows old
  pub of_id : old.session ≡ id
  pub new : change old ≡ row

later : (id : NodeId) (change : Taking → Taking) (r : Taking) (rows : List Taking) (row : Taking) → Has rows row ⊎ Changed id change rows row → Has (r ∷ rows) row ⊎ Changed id change (r ∷ rows) row
later id change r rows row (inl h) = inl (inr h)
later id change r rows row (inr c) = inr (record { old = c.old; there = inr c.there; of_id = c.of_id; new = c.new })

updated_has : (id : NodeId) (change : Taking → Taking) (rows : List Taking) (row : Taking) → Has (updated_by session_of id change rows) row → Has rows row ⊎ Changed id change rows row
updated_has id change [] row has = absurd has
updated_has id change (r ∷ rows) row has =
    by_test
    (λ b. same_id r.session id ≡ b → Has (if b then change r ∷ rows else r ∷ updated_by session_of id change rows) row → Has (r ∷ rows) row ⊎ Changed id change (r ∷ rows) row)
    (same_id r.session id)
    (λ _ is more. elim more as (λ _. Has (r ∷ rows) row ⊎ Changed id change (r ∷ rows) row) [
      | inl e ↦ inr (record { old = r; there = inl refl; of_id = id_from_test r.session id is; new = e })
      | inr h ↦ inl (inr h)
    ])
    (λ _ is more. elim more as (λ _. Has (r ∷ rows) row ⊎ Changed id change (r ∷ rows) row) [
      | inl e ↦ inl (inl e)
      | inr h ↦ later id change r rows row (updated_has id change rows row h)
    ])
    refl has

-- ---- calls that take nothing

pub forgotten_within : (session : NodeId) (h : History) → Within (known h) (known (forgotten session h))
forgotten_within session h taking (inl e) = inl e
forgotten_within session h taking (inr has) = inr (without_within session h.others taking has)

pub filtered_within : (test : Taking → Bool) (h : History) → Within (known h) (h.current ∷ filter test h.others)
filtered_within test h taking (inl e) = inl e
filtered_within test h taking (inr has) = inr (filter_within test h.others taking has)

joined_within : (other : Taking) (offset : ℤ) (h : History) → Has h.others other → Within (known h) (known (joined other offset h))
joined_within other offset h there taking (inl e) = inr (subst (λ (t : Taking). Has h.others t) e there)
joined_within other offset h there taking (inr has) =
    elim (updated_has other.session (λ _. h.current) h.others taking has) as (λ _. Has (known h) taking) [ inl old ↦ inr old | inr c ↦ inl c.new ]

measured_by_within : (found : Option Taking) (h : History) (offset now : ℤ) → ((other : Taking) → found ≡ Some other → Has h.others other)
    → Within (known h) (known (measured_by found h offset now))
measured_by_within None h offset now there = λ taking has. has
measured_by_within (Some other) h offset now there =
    by_test (λ b. Within (known h) (known (if b then joined other offset h else h))) (wins_over other.session offset h.current.session h.offset now)
    (λ _. joined_within other offset h (there other refl)) (λ _ taking has. has)

pub measured_within : (h : History) (session : NodeId) (offset now : ℤ) → Within (known h) (known (measured_after h session offset now))
unfolding measured_after
measured_within h session offset now =
    by_test (λ b. Within (known h) (known (if b then record h { offset = offset } else measured_by (other_in session h) h offset now))) (is_current session h)
    (λ _ taking has. has) (λ _. measured_by_within (other_in session h) h offset now (found_has session h.others))

-- ---- calls that take a timeline

-- the session takes the timeline
abbrev pub IsGiven : NodeId → Timeline → NodeId → Timeline → Type 0
IsGiven session tl other given = (session ≡ other) × (tl ≡ given)

last_of_more : (first : Timeline) (later : List Timeline) (seen tl : Timeline) → Has (first ∷ (later ++ seen ∷ [])) tl → Has (first ∷ later) tl ⊎ (seen ≡ tl)
last_of_more first later seen tl has =
    elim (has_parts (first ∷ later) (seen ∷ []) tl has) as (λ _. Has (first ∷ later) tl ⊎ (seen ≡ tl)) [
      | inl h ↦ inl h
      | inr one ↦ elim one as (λ _. Has (first ∷ later) tl ⊎ (seen ≡ tl)) [ inl e ↦ inr e | inr none ↦ absurd none ]
    ]

-- a timeline of a session that takes one more, which was there
more_took : (takings : List Taking) (old : Taking) (seen : Timeline) → Has takings old → (session : NodeId) (tl : Timeline)
    → old.session ≡ session → Has (old.first ∷ (old.later ++ seen ∷ [])) tl → Took takings session tl ⊎ IsGiven old.session seen session tl
more_took takings old seen there session tl is has =
    elim (last_of_more old.first old.later seen tl has) as (λ _. Took takings session tl ⊎ IsGiven old.session seen session tl) [
      | inl h ↦ inl (old, there, is, h)
      | inr e ↦ inr (is, e)
    ]

pub committed_took : (h : History) (seen : Timeline) (session : NodeId) (tl : Timeline) → Took (known (committed seen h)) session tl
    → Took (known h) session tl ⊎ IsGiven h.current.session seen session tl
committed_took h seen session tl (taking, inl e, is, has) =
    more_took (known h) h.current seen (inl refl) session tl (ap (λ (t : Taking). t.session) e ∙ is)
    (subst (λ (t : Taking). Has (t.first ∷ t.later) tl) (sym e) has)
committed_took h seen session tl (taking, inr there, is, has) = inl (taking, inr there, is, has)

-- the taking is one that was there, or made of one with the session's id, or a new one
others_took : (h : History) (told : NodeId) (seen : Timeline) (session : NodeId) (tl : Timeline) (taking : Taking)
    → Has h.others taking ⊎ Changed told (with_taken seen) h.others taking → taking.session ≡ session → Has (taking.first ∷ taking.later) tl
    → Took (known h) session tl ⊎ IsGiven told seen session tl
others_took h told seen session tl taking (inl there) is has = inl (taking, inr there, is, has)
others_took h told seen session tl taking (inr c) is has =
    elim (more_took (known h) c.old seen (inr c.there) session tl (ap (λ (t : Taking). t.session) c.new ∙ is)
    (subst (λ (t : Taking). Has (t.first ∷ t.later) tl) (sym c.new) has)) as (λ _. Took (known h) session tl ⊎ IsGiven told seen session tl) [
      | inl took ↦ inl took
      | inr given ↦ inr (sym c.of_id ∙ given.0, given.1)
    ]

new_took : (h : History) (told : NodeId) (seen : Timeline) (session : NodeId) (tl : Timeline) (taking : Taking)
    → Has h.others taking ⊎ Has (begun told seen ∷ []) taking → taking.session ≡ session → Has (taking.first ∷ taking.later) tl
    → Took (known h) session tl ⊎ IsGiven told seen session tl
new_took h told seen session tl taking (inl there) is has = inl (taking, inr there, is, has)
new_took h told seen session tl taking (inr (inl e)) is has =
    elim (subst (λ (t : Taking). Has (t.first ∷ t.later) tl) (sym e) has) as (λ _. Took (known h) session tl ⊎ IsGiven told seen session tl) [
      | inl one ↦ inr (ap (λ (t : Taking). t.session) e ∙ is, one)
      | inr none ↦ absurd none
    ]
new_took h told seen session tl taking (inr (inr none)) is has = absurd none

row_took : (h : History) (told : NodeId) (seen : Timeline) (session : NodeId) (tl : Timeline)
    → Took (known (record h { others = updated_by session_of told (with_taken seen) h.others })) session tl
    → Took (known h) session tl ⊎ IsGiven told seen session tl
row_took h told seen session tl (taking, inl e, is, has) = inl (taking, inl e, is, has)
row_took h told seen session tl (taking, inr there, is, has) =
    others_took h told seen session tl taking (updated_has told (with_taken seen) h.others taking there) is has

taken_by_took : (found : Option Taking) (h : History) (told : NodeId) (seen : Timeline) (session : NodeId) (tl : Timeline) → Took (known (taken_by found h told seen)) session tl
    → Took (known h) session tl ⊎ IsGiven told seen session tl
taken_by_took (Some other) h told seen session tl = row_took h told seen session tl
taken_by_took None h told seen session tl =
    by_test
    (λ b. Took (known (if b then record h { others = h.others ++ begun told seen ∷ [] } else h)) session tl → Took (known h) session tl ⊎ IsGiven told seen session tl)
    (nat_lt (length h.others) 64)
    (λ _ took. elim took.1 as (λ _. Took (known h) session tl ⊎ IsGiven told seen session tl) [
      | inl e ↦ inl (took.0, inl e, took.2, took.3)
      | inr there ↦ new_took h told seen session tl took.0 (has_parts h.others (begun told seen ∷ []) took.0 there) took.2 took.3
    ])
    (λ _ took. inl took)

pub saw_took : (h : History) (told : NodeId) (seen : Timeline) (session : NodeId) (tl : Timeline) → Took (known (saw_after h told seen)) session tl
    → Took (known h) session tl ⊎ IsGiven told seen session tl
unfolding saw_after
saw_took h told seen session tl =
    by_test
    (λ b. same_id h.current.session told ≡ b
    → Took (known (if b then record h { current = with_taken seen h.current } else taken_by (other_in told h) h told seen)) session tl
    → Took (known h) session tl ⊎ IsGiven told seen session tl)
    (same_id h.current.session told)
    (λ _ is took. elim (committed_took h seen session tl took) as (λ _. Took (known h) session tl ⊎ IsGiven told seen session tl) [
      | inl old ↦ inl old
      | inr given ↦ inr (sym (id_from_test h.current.session told is) ∙ given.0, given.1)
    ])
    (λ _ is took. taken_by_took (other_in told h) h told seen session tl took)
    refl
