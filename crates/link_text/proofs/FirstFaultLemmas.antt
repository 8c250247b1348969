-- The first line at fault of a text of any kind: where it is found, and that there is one.
use Rattle.std.proofs.Common.{◌≡◌, ◌⊎◌, inl, inr, refl, sym, ◌∙◌, ap, subst, arith, ℕ, ◌+◌, ◌-◌, ◌<◌, ◌≤◌, ◌^◌, List, [], ◌∷◌, ◌++◌, length, drop}
use Rattle.std.proofs.lemmas.List.{append_assoc, append-nil, append_cancel_right}
use Rattle.link_lines.specs.Lines.{lines_of, counting_in}
use Rattle.link_script.specs.FirstFault.{Begins, IsFaultAt, IsCutShort, IsFirstFault, IsNone, IsLineFault}
use Rattle.link_text.specs.Places.{IsAhead, counting_from}
use Rattle.link_text.specs.declared.place.Place.{Place}
use Rattle.link_text.proofs.PlaceLemmas.{counting-append, counting_counted}

-- whether lines are such a text is said of those that count
pub record IsCounted (IsText Says : List (List ℕ) → Type 0) : Type 0 where
  pub says : (lines : List (List ℕ)) → IsText lines → Says (counting_in lines)
  pub is_text : (lines : List (List ℕ)) → Says (counting_in lines) → IsText lines

-- some lines that count make a text of these
pub record Starts (Says : List (List ℕ) → Type 0) (said : List (List ℕ)) : Type 0 where
  pub more : List (List ℕ)
  pub goes : Says (said ++ more)
  pub counts : counting_in more ≡ more

-- both lists are empty, or they begin with one line
abbrev pub BeginAlike : List (List ℕ) → List (List ℕ) → Type 0
BeginAlike lines more = ((lines ≡ []) × (more ≡ [])) ⊎ ((x : List ℕ) × (xs : List (List ℕ)) × (ys : List (List ℕ)) × (lines ≡ x ∷ xs) × (more ≡ x ∷ ys))

pub alike_first : (lines more : List (List ℕ)) (y : List ℕ) (ys : List (List ℕ)) → BeginAlike lines more → more ≡ y ∷ ys
    → (rest : List (List ℕ)) × (lines ≡ y ∷ rest)
alike_first lines more y ys (inl none) is = absurd (differ (sym none.1 ∙ is))
  where
    differ : [] ≡ y ∷ ys → ⊥
    differ h = cc
alike_first lines more y ys (inr (x, xs, zs, first, second)) is =
    let one : x ≡ y = cc (second, is) in
    (xs, first ∙ ap (λ (l : List ℕ). l ∷ xs) one)

-- ---- where it is found

pub no_text : (IsText : List (List ℕ) → Type 0) (text : List ℕ) (k : ℕ) → IsFirstFault IsText text k → IsNone IsText text
no_text IsText text k (inl at) is =
    at.fault (record { rest = at.after; text = subst IsText (at.split ∙ sym (append_assoc at.before (at.line ∷ []) at.after)) is })
no_text IsText text k (inr short) is = short.fault is

counted : (text : List ℕ) (place : Place) (said : List (List ℕ)) (ahead : IsAhead text place)
    → counting_in (lines_of text) ≡ said ++ counting_from text place.at → counting_in ahead.before ≡ said
counted text place said ahead is =
    append_cancel_right (counting_in ahead.before) said (counting_from text place.at)
    (sym (counting-append ahead.before (lines_of (drop place.at text))) ∙ sym (ap counting_in ahead.lines) ∙ is)

begins : (IsText Says : List (List ℕ) → Type 0) (before said : List (List ℕ)) → IsCounted IsText Says → counting_in before ≡ said → Starts Says said
    → Begins IsText before
begins IsText Says before said by is starts =
    let lines : said ++ starts.more ≡ counting_in (before ++ starts.more)
    = sym (counting-append before starts.more ∙ ap (λ (ls : List (List ℕ)). ls ++ counting_in starts.more) is
    ∙ ap (λ (ls : List (List ℕ)). said ++ ls) starts.counts) in
    record { rest = starts.more; text = by.is_text (before ++ starts.more) (subst Says lines starts.goes) }

fault_by : (IsText Says : List (List ℕ) → Type 0) (text : List ℕ) (place : Place) (said there : List (List ℕ)) → IsCounted IsText Says
    → (ahead : IsAhead text place) → counting_in (lines_of text) ≡ said ++ counting_from text place.at → Starts Says said
    → ((more : List (List ℕ)) → BeginAlike (counting_from text place.at) more → Says (said ++ more) → ⊥)
    → lines_of (drop place.at text) ≡ there → IsFirstFault IsText text place.number
fault_by IsText Says text place said [] by ahead is starts none lines =
    let whole : lines_of text ≡ ahead.before = ahead.lines ∙ ap (λ (ls : List (List ℕ)). ahead.before ++ ls) lines ∙ append-nil ahead.before in
    let nothing : counting_from text place.at ≡ [] = ap counting_in lines in
    inr (record {
      number = ahead.numbered ∙ ap (λ (ls : List (List ℕ)). length ls + 1) (sym whole);
      begins = subst (λ (ls : List (List ℕ)). Begins IsText ls) (sym whole)
          (begins IsText Says ahead.before said by (counted text place said ahead is) starts);
      fault = λ s. none [] (inl (nothing, refl))
          (subst Says (is ∙ ap (λ (ls : List (List ℕ)). said ++ ls) nothing) (by.says (lines_of text) s));
    })
fault_by IsText Says text place said (x ∷ after) by ahead is starts none lines =
    let counts = ahead.stops x after lines in
    let here : counting_from text place.at ≡ x ∷ counting_in after = ap counting_in lines ∙ counting_counted x after counts in
    inl (record {
      before = ahead.before;
      line = x;
      after = after;
      split = ahead.lines ∙ ap (λ (ls : List (List ℕ)). ahead.before ++ ls) lines;
      number = ahead.numbered;
      begins = begins IsText Says ahead.before said by (counted text place said ahead is) starts;
      fault = λ b. none (x ∷ counting_in b.rest) (inr (x, counting_in after, counting_in b.rest, here, refl))
          (subst Says (going b) (by.says ((ahead.before ++ x ∷ []) ++ b.rest) b.text));
    })
  where
    going : (b : Begins IsText (ahead.before ++ x ∷ [])) → counting_in ((ahead.before ++ x ∷ []) ++ b.rest) ≡ said ++ x ∷ counting_in b.rest
    going b =
        ap counting_in (append_assoc ahead.before (x ∷ []) b.rest)
        ∙ counting-append ahead.before (x ∷ b.rest)
        ∙ ap (λ (ls : List (List ℕ)). counting_in ahead.before ++ ls) (counting_counted x b.rest (ahead.stops x after lines))
        ∙ ap (λ (ls : List (List ℕ)). ls ++ x ∷ counting_in b.rest) (counted text place said ahead is)

-- a line behind which nothing goes on to a text
pub line_fault : (IsText Says : List (List ℕ) → Type 0) (text : List ℕ) (place : Place) (said : List (List ℕ)) → IsCounted IsText Says
    → length text ≤ 2 ^ 32 - 2 → (ahead : IsAhead text place) → counting_in (lines_of text) ≡ said ++ counting_from text place.at → Starts Says said
    → ((more : List (List ℕ)) → BeginAlike (counting_from text place.at) more → Says (said ++ more) → ⊥)
    → IsLineFault IsText text place.number
line_fault IsText Says text place said by short ahead is starts none =
    let first = fault_by IsText Says text place said (lines_of (drop place.at text)) by ahead is starts none refl in
    record { first = first; none = no_text IsText text place.number first; counted = omega (arith, ahead.small, ahead.within) }

-- ---- that there is one

-- of two places in a list, the lines before the later one have the line at the earlier one among them
earlier : (a b xs ys : List (List ℕ)) (x y : List ℕ) → a ++ x ∷ xs ≡ b ++ y ∷ ys → length a < length b
    → (rest : List (List ℕ)) × (b ≡ (a ++ x ∷ []) ++ rest)
earlier a [] xs ys x y e less = absurd (omega arith)
earlier [] (z ∷ b) xs ys x y e less = (b, cc e)
earlier (w ∷ a) (z ∷ b) xs ys x y e less =
    let same : a ++ x ∷ xs ≡ b ++ y ∷ ys = cc e in
    let more = earlier a b xs ys x y same (omega arith) in
    (more.0, cc (e, more.1))

-- the front of lines that begin a text begins one
begins_front : (IsText : List (List ℕ) → Type 0) (lines rest : List (List ℕ)) → Begins IsText (lines ++ rest) → Begins IsText lines
begins_front IsText lines rest b = record { rest = rest ++ b.rest; text = subst IsText (append_assoc lines rest b.rest) b.text }

no_earlier_fault : (IsText : List (List ℕ) → Type 0) (lines : List (List ℕ)) (k j : ℕ) → IsFaultAt IsText lines k → IsFaultAt IsText lines j → k < j → ⊥
no_earlier_fault IsText lines k j p q less =
    let more = earlier p.before q.before p.after q.after p.line q.line (sym p.split ∙ q.split) (omega (arith, p.number, q.number)) in
    p.fault (begins_front IsText (p.before ++ p.line ∷ []) more.0 (subst (λ (ls : List (List ℕ)). Begins IsText ls) more.1 q.begins))

no_fault_cut_short : (IsText : List (List ℕ) → Type 0) (lines : List (List ℕ)) (k j : ℕ) → IsFaultAt IsText lines k → IsCutShort IsText lines j → ⊥
no_fault_cut_short IsText lines k j p q =
    p.fault (begins_front IsText (p.before ++ p.line ∷ []) p.after
    (subst (λ (ls : List (List ℕ)). Begins IsText ls) (p.split ∙ sym (append_assoc p.before (p.line ∷ []) p.after)) q.begins))

pub one_fault : (IsText : List (List ℕ) → Type 0) (text : List ℕ) (k j : ℕ) → IsFirstFault IsText text k → IsFirstFault IsText text j → k ≡ j
one_fault IsText text k j (inl p) (inl q) =
    let not_less = no_earlier_fault IsText (lines_of text) k j p q in
    let not_more = no_earlier_fault IsText (lines_of text) j k q p in
    omega (arith, not_less, not_more)
one_fault IsText text k j (inl p) (inr q) = absurd (no_fault_cut_short IsText (lines_of text) k j p q)
one_fault IsText text k j (inr p) (inl q) = absurd (no_fault_cut_short IsText (lines_of text) j k q p)
one_fault IsText text k j (inr p) (inr q) = omega (arith, p.number, q.number)
