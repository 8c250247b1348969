-- What was posted before a datagram.
use Rattle.std.proofs.Common.{◌≡◌, ℕ, ℤ, ◌⊎◌, ⊎_elim, inl, inr, List, [], ◌∷◌, ◌++◌, length, if◌then◌else◌, nat_lt, Bool, true, false, Option, Some, None, refl, sym, ap, subst, ◌∙◌, append_assoc, append-nil, length-append, arith}
use Rattle.std.specs.List.{AllByRecursion}
use Rattle.audio_handoff.specs.Cell.{Grows, Pair}
use Rattle.client_state.specs.Words.{commit_of_words}
use Rattle.lk_base.specs.declared.endpoint.Endpoint.{Endpoint}
use Rattle.lk_base.specs.declared.endpoint.Gate.{Gate}
use Rattle.link_node.specs.Event.{EventValue, Rx, Audio}
use Rattle.link_node.specs.Machine.{Machine}
use Rattle.link_node.specs.Runs.{sent_by}
use Rattle.link_node.specs.Step.{sends_of, step_of}
use Rattle.link_shared.specs.Hub.{got_events, item_events, read_events}
use Rattle.link_shared.specs.declared.queue.Item.{Item}
use Rattle.link_shared.specs.declared.got.Got.{Got}
use Rattle.link_shared.specs.declared.got.Got.TheVariants as got
use Rattle.link_shared.specs.declared.queue.Item.TheVariants as item
use Rattle.link_live.specs.Journal.{datagram_events_in}
use Rattle.link_live.specs.Running.{RunLaws}
use Rattle.link_live.proofs.CountLemmas.{item_datagrams, read_datagrams}
use Rattle.link_live.proofs.JournalLemmas.{all-append, datagram_events_in-append}

-- a list that begins so begins so however it goes on
pub grows_more : {A : Type 0} (part posts more : List A) → Grows part posts → Grows part (posts ++ more)
grows_more part posts more (rest, is) = (rest ++ more, ap (λ l. l ++ more) is ∙ append_assoc part rest more)

pub some_datagram : (gate : Gate) (from : Endpoint) (bytes : List ℕ) (at : ℤ) (before after : List EventValue) → datagram_events_in (before ++ Rx gate from bytes at ∷ after) ≡ [] → ⊥
some_datagram gate from bytes at before after none =
    omega (
      arith,
      ap length none,
      ap length (datagram_events_in-append before (Rx gate from bytes at ∷ after)),
      length-append (datagram_events_in before) (Rx gate from bytes at ∷ datagram_events_in after),
    )

module _ (gate : Gate) (from : Endpoint) (bytes : List ℕ) (at : ℤ) where
  abbrev e : EventValue
  e = Rx gate from bytes at

  -- a datagram of two lists stands in the first, or in the second behind it
  pub cut_datagram : (es fs before after : List EventValue) → es ++ fs ≡ before ++ e ∷ after
      → ((more : List EventValue) × (es ≡ before ++ e ∷ more)) ⊎ ((part : List EventValue) × (before ≡ es ++ part) × (fs ≡ part ++ e ∷ after))
  cut_datagram [] fs before after is = inr (before, refl, is)
  cut_datagram (x ∷ es) fs [] after is = let same : x ≡ e = cc is in inl (es, ap (λ h. h ∷ es) same)
  cut_datagram (x ∷ es) fs (b ∷ before) after is =
      let same : x ≡ b = cc is in let later : es ++ fs ≡ before ++ e ∷ after = cc is in
      ⊎_elim
      (λ (t : (more : List EventValue) × (es ≡ before ++ e ∷ more)). inl (t.0, (λ i. same i ∷ t.1 i)))
      (λ (t : (part : List EventValue) × (before ≡ es ++ part) × (fs ≡ part ++ e ∷ after)). inr (t.0, (λ i. sym same i ∷ t.1 i), t.2))
      (cut_datagram es fs before after later)

  -- it stands in the first where the second has none
  pub in_first : (es fs before after : List EventValue) → es ++ fs ≡ before ++ e ∷ after → datagram_events_in fs ≡ [] → (more : List EventValue) × (es ≡ before ++ e ∷ more)
  in_first es fs before after is none =
      ⊎_elim
      (λ (t : (more : List EventValue) × (es ≡ before ++ e ∷ more)). t)
      (λ (t : (part : List EventValue) × (before ≡ es ++ part) × (fs ≡ part ++ e ∷ after)).
      absurd (some_datagram gate from bytes at t.0 after (ap datagram_events_in (sym t.2) ∙ none)))
      (cut_datagram es fs before after is)

-- ---- what stands before it in a turn sends nothing

abbrev pub AreSilent : List EventValue → Type 0
AreSilent es = AllByRecursion (λ e. (m : Machine) → sends_of m e ≡ []) es

pub nothing_sent_by : (es : List EventValue) (m : Machine) → AreSilent es → sent_by m es ≡ []
unfolding sent_by
nothing_sent_by [] m silent = refl
nothing_sent_by (e ∷ es) m silent = (λ i. silent.0 m i ++ nothing_sent_by es (step_of m e) silent.1 i)

item_silent : RunLaws → (clock : ℤ) (popped : Option Item) → AreSilent (item_events clock popped)
item_silent laws clock None = tt
item_silent laws clock (Some (item.Commit commit)) = ((λ m. laws.app_sends m commit clock), tt)
item_silent laws clock (Some item.Quit) = tt

read_silent : RunLaws → (clock : ℤ) (held : ℕ) (pair : Pair) → AreSilent (read_events clock held pair)
read_silent laws clock held pair = by_test (nat_lt held pair.0)
  where
    by_test : (later : Bool) → AreSilent (if later then Audio pair.0 (commit_of_words pair.1) clock ∷ [] else [])
    by_test false = tt
    by_test true = ((λ m. laws.audio_sends m pair.0 (commit_of_words pair.1) clock), tt)

-- of the one event that a turn was given, none stands before it
none_before : (gate : Gate) (from : Endpoint) (bytes : List ℕ) (at clock : ℤ) (brought : Got) (part rest : List EventValue)
    → got_events clock brought ≡ part ++ Rx gate from bytes at ∷ rest → part ≡ []
none_before gate from bytes at clock brought [] rest is = refl
none_before gate from bytes at clock got.Nothing (x ∷ part) rest is = absurd (cc is)
none_before gate from bytes at clock (got.Datagram g f b) (x ∷ part) rest is =
    let later : [] ≡ part ++ Rx gate from bytes at ∷ rest = cc is in absurd (omega (arith, ap length later, length-append part (Rx gate from bytes at ∷ rest)))
none_before gate from bytes at clock got.Tick (x ∷ part) rest is =
    let later : [] ≡ part ++ Rx gate from bytes at ∷ rest = cc is in absurd (omega (arith, ap length later, length-append part (Rx gate from bytes at ∷ rest)))
none_before gate from bytes at clock got.End (x ∷ part) rest is =
    let later : [] ≡ part ++ Rx gate from bytes at ∷ rest = cc is in absurd (omega (arith, ap length later, length-append part (Rx gate from bytes at ∷ rest)))

abbrev firsts_of : ℤ → ℕ → Option Item → Pair → List EventValue
firsts_of clock held popped pair = item_events clock popped ++ read_events clock held pair

pub silent_before : RunLaws → (gate : Gate) (from : Endpoint) (bytes : List ℕ) (at clock : ℤ) (held : ℕ) (popped : Option Item) (pair : Pair) (brought : Got) (part rest : List EventValue)
    → (item_events clock popped ++ read_events clock held pair) ++ got_events clock brought ≡ part ++ Rx gate from bytes at ∷ rest → AreSilent part
silent_before laws gate from bytes at clock held popped pair brought part rest is =
    ⊎_elim
    (λ (t : (more : List EventValue) × (firsts_of clock held popped pair ≡ part ++ Rx gate from bytes at ∷ more)).
    absurd (some_datagram gate from bytes at part t.0
    (ap datagram_events_in (sym t.1)
    ∙ datagram_events_in-append (item_events clock popped) (read_events clock held pair)
    ∙ (λ i. item_datagrams clock popped i ++ read_datagrams clock held pair i))))
    (λ (t : (more : List EventValue) × (part ≡ firsts_of clock held popped pair ++ more) × (got_events clock brought ≡ more ++ Rx gate from bytes at ∷ rest)).
    subst (λ (l : List EventValue). AreSilent l) (sym (t.1 ∙ ap (λ l. firsts_of clock held popped pair ++ l) (none_before gate from bytes at clock brought t.0 rest t.2) ∙ append-nil (firsts_of clock held popped pair)))
    (all-append (λ e. (m : Machine) → sends_of m e ≡ []) (item_events clock popped) (read_events clock held pair) (item_silent laws clock popped) (read_silent laws clock held pair)))
    (cut_datagram gate from bytes at (firsts_of clock held popped pair) (got_events clock brought) part rest is)
