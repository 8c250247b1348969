-- What a turn's events are by kind: those offered, and those taken.
use Rattle.std.proofs.Common.{◌≡◌, ℕ, ℤ, ◌+◌, ◌≤◌, ◌⊎◌, Bool, true, false, if◌then◌else◌, List, [], ◌∷◌, ◌++◌, length, nat_lt, Option, Some, None, refl, sym, ap, subst, ◌∙◌, inl, inr, ⊎_elim, append-nil, length-append, arith}
use Rattle.audio_handoff.specs.Cell.{Pair}
use Rattle.client_state.specs.Words.{commit_of_words}
use Rattle.link_node.specs.Event.{EventValue, Rx, Audio}
use Rattle.link_shared.specs.Hub.{item_events, read_events, got_events, is_quit}
use Rattle.link_shared.specs.Journal.{app_commits_in}
use Rattle.link_shared.specs.declared.got.Got.{Got}
use Rattle.link_shared.specs.declared.got.Got.TheVariants as got
use Rattle.link_shared.specs.declared.queue.Item.{Item}
use Rattle.link_shared.specs.declared.queue.Item.TheVariants as item
use Rattle.link_live.specs.Journal.{datagram_events_in, ticks_in}
use Rattle.link_live.proofs.JournalLemmas.{commits_in-append, datagram_events_in-append, ticks_in-append, cut_first}

-- ---- the events that a turn offers

pub item_datagrams : (clock : ℤ) (popped : Option Item) → datagram_events_in (item_events clock popped) ≡ []
item_datagrams clock None = refl
item_datagrams clock (Some (item.Commit commit)) = refl
item_datagrams clock (Some item.Quit) = refl

pub read_datagrams : (clock : ℤ) (held : ℕ) (pair : Pair) → datagram_events_in (read_events clock held pair) ≡ []
read_datagrams clock held pair = by_test (nat_lt held pair.0)
  where
    by_test : (later : Bool) → datagram_events_in (if later then Audio pair.0 (commit_of_words pair.1) clock ∷ [] else []) ≡ []
    by_test true = refl
    by_test false = refl

pub offered_datagrams : (clock : ℤ) (held : ℕ) (popped : Option Item) (pair : Pair) (brought : Got)
    → datagram_events_in ((item_events clock popped ++ read_events clock held pair) ++ got_events clock brought) ≡ datagram_events_in (got_events clock brought)
offered_datagrams clock held popped pair brought =
    datagram_events_in-append (item_events clock popped ++ read_events clock held pair) (got_events clock brought)
    ∙ ap (λ l. l ++ datagram_events_in (got_events clock brought))
    (datagram_events_in-append (item_events clock popped) (read_events clock held pair)
    ∙ ap (λ l. l ++ datagram_events_in (read_events clock held pair)) (item_datagrams clock popped) ∙ read_datagrams clock held pair)

item_ticks : (clock : ℤ) (popped : Option Item) → ticks_in (item_events clock popped) ≡ 0
item_ticks clock None = refl
item_ticks clock (Some (item.Commit commit)) = refl
item_ticks clock (Some item.Quit) = refl

read_ticks : (clock : ℤ) (held : ℕ) (pair : Pair) → ticks_in (read_events clock held pair) ≡ 0
read_ticks clock held pair = by_test (nat_lt held pair.0)
  where
    by_test : (later : Bool) → ticks_in (if later then Audio pair.0 (commit_of_words pair.1) clock ∷ [] else []) ≡ 0
    by_test true = refl
    by_test false = refl

pub offered_ticks : (clock : ℤ) (held : ℕ) (popped : Option Item) (pair : Pair) (brought : Got)
    → ticks_in ((item_events clock popped ++ read_events clock held pair) ++ got_events clock brought) ≡ ticks_in (got_events clock brought)
offered_ticks clock held popped pair brought =
    omega (
      arith,
      ticks_in-append (item_events clock popped ++ read_events clock held pair) (got_events clock brought),
      ticks_in-append (item_events clock popped) (read_events clock held pair),
      item_ticks clock popped,
      read_ticks clock held pair,
    )

item_commits : (clock : ℤ) (popped : Option Item) → length (app_commits_in (item_events clock popped)) + (if is_quit popped then 1 else 0) ≤ 1
item_commits clock None = omega arith
item_commits clock (Some (item.Commit commit)) = omega arith
item_commits clock (Some item.Quit) = omega arith

read_commits : (clock : ℤ) (held : ℕ) (pair : Pair) → length (app_commits_in (read_events clock held pair)) ≡ 0
read_commits clock held pair = by_test (nat_lt held pair.0)
  where
    by_test : (later : Bool) → length (app_commits_in (if later then Audio pair.0 (commit_of_words pair.1) clock ∷ [] else [])) ≡ 0
    by_test true = refl
    by_test false = refl

got_commits : (clock : ℤ) (brought : Got) → length (app_commits_in (got_events clock brought)) ≡ 0
got_commits clock got.Nothing = refl
got_commits clock (got.Datagram gate from bytes) = refl
got_commits clock got.Tick = refl
got_commits clock got.End = refl

both_lengths : {A : Type 0} (xs ys zs : List A) → zs ≡ xs ++ ys → length zs ≡ length xs + length ys
both_lengths xs ys zs e = ap length e ∙ length-append xs ys

-- ---- and those taken

pub few_commits : (clock : ℤ) (held : ℕ) (popped : Option Item) (pair : Pair) (brought : Got) (taken refused : List EventValue) (quit : Bool)
    → (item_events clock popped ++ read_events clock held pair) ++ got_events clock brought ≡ taken ++ refused → quit ≡ is_quit popped
    → length (app_commits_in taken) + (if quit then 1 else 0) ≤ 1
few_commits clock held popped pair brought taken refused quit split told =
    let first : List EventValue = item_events clock popped ++ read_events clock held pair in
    let all : List EventValue = first ++ got_events clock brought in
    let of_taken : length (app_commits_in all) ≡ length (app_commits_in taken) + length (app_commits_in refused) =
    both_lengths (app_commits_in taken) (app_commits_in refused) (app_commits_in all) (ap app_commits_in split ∙ commits_in-append taken refused) in
    let of_all : length (app_commits_in all) ≡ length (app_commits_in first) + length (app_commits_in (got_events clock brought)) =
    both_lengths (app_commits_in first) (app_commits_in (got_events clock brought)) (app_commits_in all) (commits_in-append first (got_events clock brought)) in
    let of_first : length (app_commits_in first) ≡ length (app_commits_in (item_events clock popped)) + length (app_commits_in (read_events clock held pair)) =
    both_lengths (app_commits_in (item_events clock popped)) (app_commits_in (read_events clock held pair)) (app_commits_in first)
    (commits_in-append (item_events clock popped) (read_events clock held pair)) in
    subst (λ (b : Bool). length (app_commits_in taken) + (if b then 1 else 0) ≤ 1) (sym told)
    (omega (arith, of_taken, of_all, of_first, read_commits clock held pair, got_commits clock brought, item_commits clock popped))

pub all_taken : (all taken refused : List EventValue) → all ≡ taken ++ refused → refused ≡ [] → taken ≡ all
all_taken all taken refused split none = sym (split ∙ ap (λ l. taken ++ l) none ∙ append-nil taken)

none_of : {A : Type 0} (xs ys : List A) → [] ≡ xs ++ ys → xs ≡ []
none_of [] ys e = refl
none_of (x ∷ xs) ys e = absurd (cc e)

-- Its datagram was taken, unless the journal was full
pub taken_datagrams : (clock : ℤ) (held : ℕ) (popped : Option Item) (pair : Pair) (brought : Got) (taken refused : List EventValue) (full : Bool)
    → (item_events clock popped ++ read_events clock held pair) ++ got_events clock brought ≡ taken ++ refused → (full ≡ false → refused ≡ [])
    → (datagram_events_in taken ≡ datagram_events_in (got_events clock brought)) ⊎ ((full ≡ true) × (datagram_events_in taken ≡ []))
taken_datagrams clock held popped pair brought taken refused false split all =
    inl (ap datagram_events_in (all_taken _ taken refused split (all refl)) ∙ offered_datagrams clock held popped pair brought)
taken_datagrams clock held popped pair brought taken refused true split all = by_kind brought parts
  where
    parts : datagram_events_in (got_events clock brought) ≡ datagram_events_in taken ++ datagram_events_in refused
    parts = sym (offered_datagrams clock held popped pair brought) ∙ ap datagram_events_in split ∙ datagram_events_in-append taken refused

    by_kind : (kind : Got) → datagram_events_in (got_events clock kind) ≡ datagram_events_in taken ++ datagram_events_in refused
        → (datagram_events_in taken ≡ datagram_events_in (got_events clock kind)) ⊎ ((true ≡ true) × (datagram_events_in taken ≡ []))
    by_kind got.Nothing e = inl (none_of (datagram_events_in taken) (datagram_events_in refused) e)
    by_kind (got.Datagram gate from bytes) e =
        ⊎_elim
        (λ (t : (datagram_events_in taken ≡ []) × (datagram_events_in refused ≡ Rx gate from bytes.items clock ∷ [])). inr (refl, t.0))
        (λ (t : (more : List EventValue) × (datagram_events_in taken ≡ Rx gate from bytes.items clock ∷ more) × ([] ≡ more ++ datagram_events_in refused)).
        inl (t.1 ∙ ap (λ l. Rx gate from bytes.items clock ∷ l) (none_of t.0 (datagram_events_in refused) t.2)))
        (cut_first (Rx gate from bytes.items clock) [] (datagram_events_in taken) (datagram_events_in refused) e)
    by_kind got.Tick e = inl (none_of (datagram_events_in taken) (datagram_events_in refused) e)
    by_kind got.End e = inl (none_of (datagram_events_in taken) (datagram_events_in refused) e)
