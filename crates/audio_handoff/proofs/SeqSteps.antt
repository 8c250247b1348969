-- Each step of the cell keeps its rule.
use Rattle.std.proofs.Common.{◌≡◌, ◌≢◌, ℕ, zero, suc, ◌^◌, ◌<◌, ◌≤◌, List, [], ◌∷◌, ◌++◌, length, set, sym, refl, ap, ◌∙◌, subst, inl, inr, ⊎_elim, arith, length-append, le_refl}
use mathlib.Core.Option.{some, some-injective, some-ne-none}
use lib.ListN.{get_elem?}
use Rattle.crossbeam_utils.specs.Register.{Turns, Forks, Merges}
use Rattle.atomic_table.proofs.Lists.{at_set, at_last}
use Rattle.audio_handoff.specs.Cell.{Pair, Grows, IsLast, IsLawful}
use Rattle.audio_handoff.specs.SeqRule.{first_reader, rows_in, reader_in, note_in, row_of, number_of, after_read, after_tell, parted_left, parted_right, noted_left, noted_right, told_both, settled_both, ReadsAgree, FitsSeat, Running, Kept, Opened, Published, WasRead, Checked, Ended}
use Rattle.audio_handoff.specs.declared.seq_state.plays.Known.{Known}
use Rattle.audio_handoff.specs.declared.seq_state.plays.Known.TheVariants.{Blank, Both, Writes, Reads, Notes, Spent}
use Rattle.audio_handoff.specs.declared.seq_state.plays.ReaderKnown.{ReaderKnown}
use Rattle.audio_handoff.specs.declared.seq_state.plays.NoteKnown.{NoteKnown}
use Rattle.audio_handoff.proofs.CellLists.{snoc_at, grows_by, grows_none, grows_self, made_longer, made_pair, newest_pair, never_fall_more, all_at_most_more, looked_more, answered_more}

abbrev AllSeats : (ℕ → Known → Type 0) → List Known → Type 0
AllSeats F views = (at : ℕ) (view : Known) → get_elem? views at ≡ some view → F at view

all_set : (F : ℕ → Known → Type 0) (views : List Known) (id : ℕ) (new : Known) → F id new → ((at : ℕ) (view : Known) → at ≢ id → get_elem? views at ≡ some view → F at view) → AllSeats F (set views id new)
all_set F views id new mine others at view e = ⊎_elim (λ (t : (at ≡ id) × (new ≡ view)). subst (λ (z : ℕ × Known). F z.0 z.1) (λ k. (sym t.0 k, t.1 k)) mine)
    (λ (t : (at ≢ id) × (get_elem? views at ≡ some view)). others at view t.0 t.1) (at_set views id at new view e)

all_more : (F : ℕ → Known → Type 0) (views : List Known) (new : Known) → F (length views) new → AllSeats F views → AllSeats F (views ++ new ∷ [])
all_more F views new mine others at view e = ⊎_elim (others at view)
    (λ (t : (at ≡ length views) × (new ≡ view)). subst (λ (z : ℕ × Known). F z.0 z.1) (λ k. (sym t.0 k, t.1 k)) mine) (snoc_at views new view at e)

blank_alone : (views : List Known) (id : ℕ) (view : Known) → views ≡ Blank ∷ [] → get_elem? views id ≡ some view → Blank ≡ view
blank_alone views id view is at = go id (ap (λ l. get_elem? l id) (sym is) ∙ at)
  where
    go : (k : ℕ) → get_elem? (Blank ∷ []) k ≡ some view → Blank ≡ view
    go zero e = some-injective Blank view e
    go (suc k) e = absurd (some-ne-none view (sym e))

-- a seat that is neither end doesn't care where the ends are
not_an_end : (made : List (List ℕ)) (reader : ReaderKnown) (w r w' r' at : ℕ) (view : Known) → at ≢ w → at ≢ r → FitsSeat made reader w r at view → FitsSeat made reader w' r' at view
not_an_end made reader w r w' r' at (Writes rows) a b h = absurd (a h.0)
not_an_end made reader w r w' r' at (Reads own) a b h = absurd (b h.0)
not_an_end made reader w r w' r' at (Both rows own) a b h = absurd (a h.0)
not_an_end made reader w r w' r' at (Notes note) a b h = h
not_an_end made reader w r w' r' at Spent a b h = tt
not_an_end made reader w r w' r' at Blank a b h = h

not_the_reader : (made : List (List ℕ)) (reader : ReaderKnown) (w r r' at : ℕ) (view : Known) → at ≢ r → FitsSeat made reader w r at view → FitsSeat made reader w r' at view
not_the_reader made reader w r r' at (Writes rows) a h = h
not_the_reader made reader w r r' at (Reads own) a h = absurd (a h.0)
not_the_reader made reader w r r' at (Both rows own) a h = absurd (a h.1)
not_the_reader made reader w r r' at (Notes note) a h = h
not_the_reader made reader w r r' at Spent a h = tt
not_the_reader made reader w r r' at Blank a h = h

beside_a_write : (made : List (List ℕ)) (row : List ℕ) (reader : ReaderKnown) (w r at : ℕ) (view : Known) → at ≢ w → FitsSeat made reader w r at view → FitsSeat (made ++ row ∷ []) reader w r at view
beside_a_write made row reader w r at (Writes rows) a h = absurd (a h.0)
beside_a_write made row reader w r at (Reads own) a h = h
beside_a_write made row reader w r at (Both rows own) a h = absurd (a h.0)
beside_a_write made row reader w r at (Notes note) a h = let l = h.0 in (omega (arith, length-append made (row ∷ [])), h.1)
beside_a_write made row reader w r at Spent a h = tt
beside_a_write made row reader w r at Blank a h = h

beside_a_read : (made : List (List ℕ)) (reader next : ReaderKnown) (w r at : ℕ) (view : Known) → at ≢ r → ((seen : List Pair) → Grows seen reader.seen → Grows seen next.seen) → FitsSeat made reader w r at view
    → FitsSeat made next w r at view
beside_a_read made reader next w r at (Writes rows) a g h = h
beside_a_read made reader next w r at (Reads own) a g h = absurd (a h.0)
beside_a_read made reader next w r at (Both rows own) a g h = absurd (a h.1)
beside_a_read made reader next w r at (Notes note) a g h = (h.0, g note.seen h.1)
beside_a_read made reader next w r at Spent a g h = tt
beside_a_read made reader next w r at Blank a g h = h

-- other views, and other seats of the two ends
with_ends : (width : ℕ) (words : List ℕ) (views next : List Known) (r : Running width words views) (writer_seat reader_seat : ℕ) → AllSeats (FitsSeat r.made r.reader writer_seat reader_seat) next → Running width words next
with_ends width words views next r writer_seat reader_seat each = record {
  made = r.made;
  reader = r.reader;
  writer_seat = writer_seat;
  reader_seat = reader_seat;
  last = r.last;
  reads_agree = r.reads_agree;
  numbers_fit = r.numbers_fit;
  each_seat = each;
}

-- other views, of which the rule holds too
with_views : (width : ℕ) (words : List ℕ) (views next : List Known) (r : Running width words views) → AllSeats (FitsSeat r.made r.reader r.writer_seat r.reader_seat) next → Running width words next
with_views width words views next r each = with_ends width words views next r r.writer_seat r.reader_seat each

no_reads : (row : List ℕ) → ReadsAgree (row ∷ []) first_reader
no_reads row = record {
  seen_were_made = λ k pair e. absurd (some-ne-none pair (sym e));
  numbers_never_fall = λ j k first second le e f. absurd (some-ne-none first (sym e));
  none_is_newer = λ k pair e. absurd (some-ne-none pair (sym e));
  looks_are_met = λ k look e. absurd (some-ne-none look (sym e));
  looks_were_answered = λ k look pair e f. absurd (some-ne-none look (sym e));
  one_look_a_read = refl;
  number_was_made = omega arith;
  told_was_made = omega arith;
  heard_was_read = grows_none [];
}

-- the first pass is alone until the opening row is stored, so it finds no rows
no_rows_yet : (width : ℕ) (words : List ℕ) (views : List Known) (id : ℕ) → Running width words views → get_elem? views id ≡ some Blank → ⊥
no_rows_yet width words views id r at = r.each_seat id Blank at

pub begins : (width : ℕ) (words : List ℕ) → length words ≡ 16 → Kept width words (Blank ∷ [])
unfolding Kept
begins width words long = (long, inl refl)

module _ (width id : ℕ) where
  pub opens : (view : Known) (words : List ℕ) → view ≡ Blank → length words ≡ 16 → number_of words ≡ 0 → Turns (Kept width) id view (λ _. words) (Opened width)
  unfolding Kept
  opens view words is long number x views (_, inr r) at = absurd (no_rows_yet width x views id r (at ∙ ap some is))
  opens view words is long number x views (_, inl alone) at =
      let row : List ℕ = row_of width words in
      let both : Known = Both (row ∷ []) first_reader in (
        both,
        (
          long,
          inr record {
            made = row ∷ [];
            reader = first_reader;
            writer_seat = id;
            reader_seat = id;
            last = record { is_made = ap (get_elem? (row ∷ [])) number; nothing_later = omega arith };
            reads_agree = no_reads row;
            numbers_fit = omega arith;
            each_seat = all_set (FitsSeat (row ∷ []) first_reader id id) views id both (refl, refl, refl, refl)
                (λ j u apart e. absurd (other_seat j u apart e));
          },
        ),
        refl,
      )
    where
      only_zero : (j : ℕ) (u : Known) → get_elem? (Blank ∷ []) j ≡ some u → j ≡ 0
      only_zero zero u e = refl
      only_zero (suc j) u e = absurd (some-ne-none u (sym e))

      other_seat : (j : ℕ) (u : Known) → j ≢ id → get_elem? views j ≡ some u → ⊥
      other_seat j u apart e = apart (only_zero j u (ap (λ l. get_elem? l j) (sym alone) ∙ e) ∙ sym (only_zero id view (ap (λ l. get_elem? l id) (sym alone) ∙ at)))

  pub parts : (view : Known) → view ≡ Both (rows_in view) (reader_in view) → Forks (Kept width) id view (parted_left view) (parted_right view)
  unfolding Kept
  parts view is x views (long, inl alone) at = let e = blank_alone views id (Both (rows_in view) (reader_in view)) alone (at ∙ ap some is) in absurd (cc)
  parts view is x views (long, inr r) at =
      let mine = r.each_seat id (Both (rows_in view) (reader_in view)) (at ∙ ap some is) in
      let l : Known = parted_left view in
      let vs : List Known = set views id l in
      let F : ℕ → Known → Type 0 = FitsSeat r.made r.reader id (length vs) in (
        long,
        inr (with_ends _ _ _ _ r id (length vs)
            (all_more F vs (parted_right view) (refl, mine.3)
            (all_set F views id l (refl, mine.2)
            (λ j u apart e. not_an_end r.made r.reader r.writer_seat r.reader_seat id (length vs) j u (λ s. apart (s ∙ sym mine.0)) (λ s. apart (s ∙ sym mine.1)) (r.each_seat j u e))))),
      )

  pub publishes : (view : Known) (words : List ℕ) → view ≡ Writes (rows_in view) → length words ≡ 16 → number_of words ≡ length (rows_in view) → length (rows_in view) < 2 ^ 60 → Turns (Kept width) id view (λ _. words) (Published width)
  unfolding Kept
  publishes view words is long number room x views (_, inl alone) at = let e = blank_alone views id (Writes (rows_in view)) alone (at ∙ ap some is) in absurd (cc)
  publishes view words is long number room x views (_, inr r) at =
      let mine = r.each_seat id (Writes (rows_in view)) (at ∙ ap some is) in
      let new : List ℕ = row_of width words in
      let reads = r.reads_agree in
      let here : length r.made ≡ length (rows_in view) = ap length (sym mine.1) in
      let more = length-append r.made (new ∷ []) in
      let w : Known = Writes (rows_in view ++ new ∷ []) in (
        w,
        (
          long,
          inr record {
            made = r.made ++ new ∷ [];
            reader = r.reader;
            writer_seat = r.writer_seat;
            reader_seat = r.reader_seat;
            last = record { is_made = at_last r.made new (number_of words) (here ∙ sym number); nothing_later = omega arith };
            reads_agree = record {
              seen_were_made = made_longer r.made new r.reader.seen reads.seen_were_made;
              numbers_never_fall = reads.numbers_never_fall;
              none_is_newer = reads.none_is_newer;
              looks_are_met = reads.looks_are_met;
              looks_were_answered = reads.looks_were_answered;
              one_look_a_read = reads.one_look_a_read;
              number_was_made = let l = reads.number_was_made in omega arith;
              told_was_made = let l = reads.told_was_made in omega arith;
              heard_was_read = reads.heard_was_read;
            };
            numbers_fit = omega arith;
            each_seat = all_set (FitsSeat (r.made ++ new ∷ []) r.reader r.writer_seat r.reader_seat) views id w (mine.0, ap (λ l. l ++ new ∷ []) mine.1)
                (λ j u apart e. beside_a_write r.made new r.reader r.writer_seat r.reader_seat j u (λ s. apart (s ∙ sym mine.0)) (r.each_seat j u e));
          },
        ),
        refl,
      )

  read_agrees : (made : List (List ℕ)) (reader : ReaderKnown) (words : List ℕ) → ReadsAgree made reader → IsLast made (number_of words) (row_of width words) → ReadsAgree made (after_read width reader words)
  read_agrees made reader words h last =
      let n : ℕ = number_of words in
      let row : List ℕ = row_of width words in
      let later = last.nothing_later in
      let own = h.number_was_made in
      let most : (k : ℕ) (pair : Pair) → get_elem? reader.seen k ≡ some pair → pair.0 ≤ n = λ k pair e. let m = h.none_is_newer k pair e in omega arith in
      let met : (k : ℕ) (look : ℕ) → get_elem? (reader.looks ++ n ∷ []) k ≡ some look → look ≤ n =
      all_at_most_more reader.looks n n (le_refl n) (λ k look e. let m = h.looks_are_met k look e in omega arith) in record {
        seen_were_made = made_pair made reader.seen n row last.is_made h.seen_were_made;
        numbers_never_fall = never_fall_more reader.seen n row h.numbers_never_fall most;
        none_is_newer = newest_pair reader.seen n row most;
        looks_are_met = met;
        looks_were_answered = answered_more (reader.looks ++ n ∷ []) reader.seen n row met (looked_more reader.looks reader.seen n h.one_look_a_read h.looks_were_answered);
        one_look_a_read = let same = h.one_look_a_read in omega (arith, length-append reader.looks (n ∷ []), length-append reader.seen ((n, row) ∷ []));
        number_was_made = omega arith;
        told_was_made = h.told_was_made;
        heard_was_read = grows_by reader.heard reader.seen (n, row) h.heard_was_read;
      }

  pub reads : (view : Known) → view ≡ Reads (reader_in view) → Turns (Kept width) id view (λ x. x) (WasRead width)
  unfolding Kept
  reads view is x views (long, inl alone) at = let e = blank_alone views id (Reads (reader_in view)) alone (at ∙ ap some is) in absurd (cc)
  reads view is x views (long, inr r) at =
      let mine = r.each_seat id (Reads (reader_in view)) (at ∙ ap some is) in
      let next : ReaderKnown = after_read width r.reader x in
      let w : Known = Reads (after_read width (reader_in view) x) in
      let later = r.last.nothing_later in
      let fits = r.numbers_fit in
      let own = r.reads_agree.number_was_made in
      let told = r.reads_agree.told_was_made in
      let same_number = ap (λ (k : ReaderKnown). k.number) mine.1 in
      let same_told = ap (λ (k : ReaderKnown). k.told) mine.1 in (
        w,
        (
          long,
          inr record {
            made = r.made;
            reader = next;
            writer_seat = r.writer_seat;
            reader_seat = r.reader_seat;
            last = r.last;
            reads_agree = read_agrees r.made r.reader x r.reads_agree r.last;
            numbers_fit = r.numbers_fit;
            each_seat = all_set (FitsSeat r.made next r.writer_seat r.reader_seat) views id w (mine.0, ap (λ k. after_read width k x) mine.1)
                (λ j u apart e. beside_a_read r.made r.reader next r.writer_seat r.reader_seat j u (λ s. apart (s ∙ sym mine.0)) (λ seen g. grows_by seen r.reader.seen _ g) (r.each_seat j u e));
          },
        ),
        (refl, omega arith, omega arith, omega arith),
      )

  -- a seat's view stays, and a new seat fits
  kept_beside : (view right : Known) (x : List ℕ) (views : List Known) (r : Running width x views) → get_elem? views id ≡ some view → length x ≡ 16
      → ((at : ℕ) → FitsSeat r.made r.reader r.writer_seat r.reader_seat at right) → Kept width x (set views id view ++ right ∷ [])
  unfolding Kept
  kept_beside view right x views r at long fits =
      let F : ℕ → Known → Type 0 = FitsSeat r.made r.reader r.writer_seat r.reader_seat in (
        long,
        inr (with_views _ _ _ _ r
            (all_more F (set views id view) right (fits _) (all_set F views id view (r.each_seat id view at) (λ j u apart e. r.each_seat j u e)))),
      )

  notes_writer : (rows : List (List ℕ)) → Forks (Kept width) id (Writes rows) (noted_left (Writes rows)) (noted_right (Writes rows))
  unfolding Kept
  notes_writer rows x views (long, inl alone) at = let e = blank_alone views id (Writes rows) alone at in absurd (cc)
  notes_writer rows x views (long, inr r) at =
      let mine = r.each_seat id (Writes rows) at in
      let count = ap length mine.1 in
      let later = r.last.nothing_later in
      kept_beside (Writes rows) _ x views r at long (λ _. (omega arith, grows_none r.reader.seen))

  notes_reader : (reader : ReaderKnown) → Forks (Kept width) id (Reads reader) (noted_left (Reads reader)) (noted_right (Reads reader))
  unfolding Kept
  notes_reader reader x views (long, inl alone) at = let e = blank_alone views id (Reads reader) alone at in absurd (cc)
  notes_reader reader x views (long, inr r) at =
      let mine = r.each_seat id (Reads reader) at in
      kept_beside (Reads reader) _ x views r at long
      (λ _. (subst (λ (k : ReaderKnown). k.number < length r.made) (sym mine.1) r.reads_agree.number_was_made, subst (λ (k : ReaderKnown). Grows k.seen r.reader.seen) (sym mine.1) (grows_self r.reader.seen)))

  notes_note : (note : NoteKnown) → Forks (Kept width) id (Notes note) (noted_left (Notes note)) (noted_right (Notes note))
  unfolding Kept
  notes_note note x views (long, inl alone) at = let e = blank_alone views id (Notes note) alone at in absurd (cc)
  notes_note note x views (long, inr r) at = let mine = r.each_seat id (Notes note) at in kept_beside (Notes note) _ x views r at long (λ _. mine)

  moves_note : (note : NoteKnown) → Forks (Kept width) id (Notes note) Spent (Notes note)
  unfolding Kept
  moves_note note x views (long, inl alone) at = let e = blank_alone views id (Notes note) alone at in absurd (cc)
  moves_note note x views (long, inr r) at =
      let mine = r.each_seat id (Notes note) at in
      let F : ℕ → Known → Type 0 = FitsSeat r.made r.reader r.writer_seat r.reader_seat in (
        long,
        inr (with_views _ _ _ _ r
            (all_more F (set views id Spent) (Notes note) mine (all_set F views id Spent tt (λ j u apart e. r.each_seat j u e)))),
      )

  moves_reader : (reader : ReaderKnown) → Forks (Kept width) id (Reads reader) Spent (Reads reader)
  unfolding Kept
  moves_reader reader x views (long, inl alone) at = let e = blank_alone views id (Reads reader) alone at in absurd (cc)
  moves_reader reader x views (long, inr r) at =
      let mine = r.each_seat id (Reads reader) at in
      let vs : List Known = set views id Spent in
      let F : ℕ → Known → Type 0 = FitsSeat r.made r.reader r.writer_seat (length vs) in (
        long,
        inr (with_ends _ _ _ _ r r.writer_seat (length vs)
            (all_more F vs (Reads reader) (refl, mine.1)
            (all_set F views id Spent tt (λ j u apart e. not_the_reader r.made r.reader r.writer_seat r.reader_seat (length vs) j u (λ s. apart (s ∙ sym mine.0)) (r.each_seat j u e))))),
      )

  tells_reader : (other : ℕ) (reader : ReaderKnown) (note : NoteKnown) → Merges (Kept width) id (Reads reader) other (Notes note) (Reads (after_tell reader note)) Spent
  unfolding Kept
  tells_reader other reader note x views (long, inl alone) at apart there = let e = blank_alone views id (Reads reader) alone at in absurd (cc)
  tells_reader other reader note x views (long, inr r) at apart there =
      let mine = r.each_seat id (Reads reader) at in
      let both : Known = Reads (after_tell reader note) in
      let next : ReaderKnown = after_tell r.reader note in
      let was : get_elem? views other ≡ some (Notes note) = ⊎_elim (λ (t : (other ≡ id) × (both ≡ Notes note)). absurd (apart t.0)) (λ (t : (other ≢ id) × (get_elem? views other ≡ some (Notes note))). t.1) (at_set views id other both (Notes note) there) in
      let theirs = r.each_seat other (Notes note) was in
      let h = r.reads_agree in
      let F : ℕ → Known → Type 0 = FitsSeat r.made next r.writer_seat r.reader_seat in (
        long,
        inr record {
          made = r.made;
          reader = next;
          writer_seat = r.writer_seat;
          reader_seat = r.reader_seat;
          last = r.last;
          reads_agree = record {
            seen_were_made = h.seen_were_made;
            numbers_never_fall = h.numbers_never_fall;
            none_is_newer = h.none_is_newer;
            looks_are_met = h.looks_are_met;
            looks_were_answered = h.looks_were_answered;
            one_look_a_read = h.one_look_a_read;
            number_was_made = h.number_was_made;
            told_was_made = let a = h.told_was_made in let b = theirs.0 in omega arith;
            heard_was_read = theirs.1;
          };
          numbers_fit = r.numbers_fit;
          each_seat = all_set F (set views id both) other Spent tt
              (λ j u _ e. all_set F views id both (mine.0, ap (λ k. after_tell k note) mine.1)
              (λ i v different f. beside_a_read r.made r.reader next r.writer_seat r.reader_seat i v (λ s. different (s ∙ sym mine.0)) (λ seen g. g) (r.each_seat i v f)) j u e);
        },
      )

  settles_ends : (other : ℕ) (rows : List (List ℕ)) (reader : ReaderKnown) → Merges (Kept width) id (Writes rows) other (Reads reader) (Both rows reader) Spent
  unfolding Kept
  settles_ends other rows reader x views (long, inl alone) at apart there = let e = blank_alone views id (Writes rows) alone at in absurd (cc)
  settles_ends other rows reader x views (long, inr r) at apart there =
      let mine = r.each_seat id (Writes rows) at in
      let both : Known = Both rows reader in
      let was : get_elem? views other ≡ some (Reads reader) = ⊎_elim (λ (t : (other ≡ id) × (both ≡ Reads reader)). absurd (apart t.0)) (λ (t : (other ≢ id) × (get_elem? views other ≡ some (Reads reader))). t.1) (at_set views id other both (Reads reader) there) in
      let theirs = r.each_seat other (Reads reader) was in
      let F : ℕ → Known → Type 0 = FitsSeat r.made r.reader id id in
      let G : ℕ → Known → Type 0 = λ j u. j ≢ other → F j u in
      let set_once : AllSeats G (set views id both) = all_set G views id both (λ _. (refl, refl, mine.1, theirs.1))
      (λ j u different e not_other. not_an_end r.made r.reader r.writer_seat r.reader_seat id id j u (λ s. different (s ∙ sym mine.0)) (λ s. not_other (s ∙ sym theirs.0)) (r.each_seat j u e)) in (
        long,
        inr (with_ends _ _ _ _ r id id
            (all_set F (set views id both) other Spent tt (λ j u different e. set_once j u e different))),
      )

  pub checks : (view : Known) → view ≡ Reads (reader_in view) → Turns (Kept width) id view (λ x. x) Checked
  unfolding Kept
  checks view is x views (long, inl alone) at = let e = blank_alone views id (Reads (reader_in view)) alone (at ∙ ap some is) in absurd (cc)
  checks view is x views (long, inr r) at =
      let mine = r.each_seat id (Reads (reader_in view)) (at ∙ ap some is) in (
        view,
        (
          long,
          inr (with_views _ _ _ _ r
              (all_set (FitsSeat r.made r.reader r.writer_seat r.reader_seat) views id view (r.each_seat id view at) (λ j u apart e. r.each_seat j u e))),
        ),
        (refl, subst (λ (k : ReaderKnown). Grows k.heard k.seen) (sym mine.1) r.reads_agree.heard_was_read),
      )

  pub ends : (view : Known) → view ≡ Both (rows_in view) (reader_in view) → Turns (Kept width) id view (λ x. x) (Ended width)
  unfolding Kept
  ends view is x views (long, inl alone) at = let e = blank_alone views id (Both (rows_in view) (reader_in view)) alone (at ∙ ap some is) in absurd (cc)
  ends view is x views (long, inr r) at =
      let mine = r.each_seat id (Both (rows_in view) (reader_in view)) (at ∙ ap some is) in
      let h = r.reads_agree in
      let lawful : IsLawful r.made r.reader.seen r.reader.looks r.reader.told = record {
        seen_were_made = h.seen_were_made;
        numbers_never_fall = h.numbers_never_fall;
        one_look_a_read = h.one_look_a_read;
        looks_were_answered = h.looks_were_answered;
        told_was_made = h.told_was_made;
        numbers_fit = r.numbers_fit;
      } in (
        view,
        (
          long,
          inr (with_views _ _ _ _ r
              (all_set (FitsSeat r.made r.reader r.writer_seat r.reader_seat) views id view (r.each_seat id view at) (λ j u apart e. r.each_seat j u e))),
        ),
        (
          subst (λ rows. IsLast rows (number_of x) (row_of width x)) (sym mine.2) r.last,
          subst (λ (z : List (List ℕ) × ReaderKnown). IsLawful z.0 z.1.seen z.1.looks z.1.told) (λ k. (sym mine.2 k, sym mine.3 k)) lawful,
        ),
      )

  pub notes_of_writer : (view : Known) → view ≡ Writes (rows_in view) → Forks (Kept width) id view (noted_left view) (noted_right view)
  notes_of_writer view is = subst (λ v. Forks (Kept width) id v (noted_left v) (noted_right v)) (sym is) (notes_writer (rows_in view))

  pub notes_of_reader : (view : Known) → view ≡ Reads (reader_in view) → Forks (Kept width) id view (noted_left view) (noted_right view)
  notes_of_reader view is = subst (λ v. Forks (Kept width) id v (noted_left v) (noted_right v)) (sym is) (notes_reader (reader_in view))

  pub copies_note : (view : Known) → view ≡ Notes (note_in view) → Forks (Kept width) id view (noted_left view) (noted_right view)
  copies_note view is = subst (λ v. Forks (Kept width) id v (noted_left v) (noted_right v)) (sym is) (notes_note (note_in view))

  pub moves_a_note : (view : Known) → view ≡ Notes (note_in view) → Forks (Kept width) id view Spent view
  moves_a_note view is = subst (λ v. Forks (Kept width) id v Spent v) (sym is) (moves_note (note_in view))

  pub moves_a_reader : (view : Known) → view ≡ Reads (reader_in view) → Forks (Kept width) id view Spent view
  moves_a_reader view is = subst (λ v. Forks (Kept width) id v Spent v) (sym is) (moves_reader (reader_in view))

  pub tells : (other : ℕ) (view note : Known) → view ≡ Reads (reader_in view) → note ≡ Notes (note_in note) → Merges (Kept width) id view other note (told_both view note) Spent
  tells other view note is note_is = subst (λ (z : Known × Known). Merges (Kept width) id z.0 other z.1 (told_both view note) Spent) (λ k. (sym is k, sym note_is k)) (tells_reader other (reader_in view) (note_in note))

  pub settles : (other : ℕ) (view reader : Known) → view ≡ Writes (rows_in view) → reader ≡ Reads (reader_in reader) → Merges (Kept width) id view other reader (settled_both view reader) Spent
  settles other view reader is reader_is = subst (λ (z : Known × Known). Merges (Kept width) id z.0 other z.1 (settled_both view reader) Spent) (λ k. (sym is k, sym reader_is k)) (settles_ends other (rows_in view) (reader_in reader))
