-- Text on its way to a sink: what a line, a whole write and a write that failed make of it, and several in order.
use Rattle.std.proofs.Common.{◌≡◌, ◌≤◌, ◌+◌, ◌⊎◌, ◌++◌, [], inl, inr, length, take, List, ℕ, Option, Some, None, Result, Ok, Err, refl, ap, sym, ◌∙◌, append_assoc, length-append, arith}
use Rattle.std.specs.Option.{option_map}
use Rattle.std.specs.Result.{OnErr}
use Rattle.std.proofs.Math.Seq.{take-append-add}
use Rattle.std.proofs.lemmas.List.{append-nil, take-append-le}
use Rattle.lk_outside.specs.Sink.{Appends}
use Rattle.lk_outside.specs.Transfer.{AppendsPrefix}
use Rattle.link_commands.specs.Outlet.{HandsOver, HandsPart}

-- what holds anyway holds where a failure is handed on
pub on_failure : {T E P : Type 0} (result : Result T E) → P → OnErr result P
on_failure (Ok value) holds = tt
on_failure (Err failure) holds = holds

-- nothing is appended
pub appends_none : (told : Option (List ℕ)) → Appends told [] told
appends_none None = refl
appends_none (Some old) = ap Some (sym (append-nil old))

-- one text appended and then another is both in order
pub appends_both : (before now after : Option (List ℕ)) (first second : List ℕ)
    → Appends before first now → Appends now second after → Appends before (first ++ second) after
appends_both None now after first second one two = two ∙ ap (λ (x : Option (List ℕ)). option_map (λ old. old ++ second) x) one
appends_both (Some old) now after first second one two =
    two ∙ ap (λ (x : Option (List ℕ)). option_map (λ old. old ++ second) x) one ∙ ap Some (append_assoc old first second)

-- a prefix of one text is one of it and more
pub prefix_of_more : (before after : Option (List ℕ)) (text more : List ℕ)
    → AppendsPrefix before text after → AppendsPrefix before (text ++ more) after
prefix_of_more before after text more (n, within, wrote) = (
  n,
  omega (arith, length-append text more),
  rw (take-append-le n text more within) wrote,
)

-- a whole text, and then a prefix of another
pub prefix_after : (before now after : Option (List ℕ)) (first second : List ℕ)
    → Appends before first now → AppendsPrefix now second after → AppendsPrefix before (first ++ second) after
prefix_after before now after first second one (n, within, wrote) = (
  length first + n,
  omega (arith, length-append first second),
  rw (take-append-add first second n) (appends_both before now after first (take n second) one wrote),
)

-- nothing is handed over
pub hands_none : (told : Option (List ℕ)) (kept : List ℕ) → HandsOver [] told kept told kept
hands_none told kept = record { done = []; appended = appends_none told; whole = append-nil kept; large = inl refl }

-- nothing or many bytes, and then nothing or many
large_both : (first second : List ℕ) → (first ≡ []) ⊎ (64_337 ≤ length first) → (second ≡ []) ⊎ (64_337 ≤ length second)
    → (first ++ second ≡ []) ⊎ (64_337 ≤ length (first ++ second))
large_both first second (inl none) (inl nothing) = inl (cc (none, nothing))
large_both first second (inl none) (inr many) = inr (omega (arith, length-append first second, many))
large_both first second (inr many) other = inr (omega (arith, length-append first second, many))

-- one text and then another
pub hands_both : (before now after : Option (List ℕ)) (kept kept' kept'' first second : List ℕ)
    → HandsOver first before kept now kept' → HandsOver second now kept' after kept'' → HandsOver (first ++ second) before kept after kept''
hands_both before now after kept kept' kept'' first second one two = record {
  done = one.done ++ two.done;
  appended = appends_both before now after one.done two.done one.appended two.appended;
  whole = sym (append_assoc kept first second)
      ∙ ap (λ (xs : List ℕ). xs ++ second) one.whole
      ∙ append_assoc one.done kept' second
      ∙ ap (λ (xs : List ℕ). one.done ++ xs) two.whole
      ∙ sym (append_assoc one.done two.done kept'');
  large = large_both one.done two.done one.large two.large;
}

-- one text, and then a part of another
pub part_after : (before now after : Option (List ℕ)) (kept kept' first second : List ℕ)
    → HandsOver first before kept now kept' → HandsPart second now kept' after → HandsPart (first ++ second) before kept after
part_after before now after kept kept' first second one two =
    let both = prefix_after before now after one.done (kept' ++ second) one.appended two in
    let whole : kept ++ (first ++ second) ≡ one.done ++ (kept' ++ second) =
    sym (append_assoc kept first second)
    ∙ ap (λ (xs : List ℕ). xs ++ second) one.whole
    ∙ append_assoc one.done kept' second in
    rw whole both

-- a part of a text is one of it and more
pub part_of_more : (before after : Option (List ℕ)) (kept text more : List ℕ)
    → HandsPart text before kept after → HandsPart (text ++ more) before kept after
part_of_more before after kept text more part =
    let longer = prefix_of_more before after (kept ++ text) more part in
    rw (← append_assoc kept text more) longer

-- a text that was handed over whole, and a part of what is kept written
pub hands_whole_part : (before now after : Option (List ℕ)) (text kept : List ℕ)
    → HandsOver text before [] now kept → AppendsPrefix now kept after → AppendsPrefix before text after
hands_whole_part before now after text kept one wrote =
    let both = prefix_after before now after one.done kept one.appended wrote in
    rw one.whole both

-- an output of some kind was handed over, and the sink failed at what was kept
pub over_part_last : (P : List ℕ → Type 0) (before now after : Option (List ℕ)) (kept kept' : List ℕ) → kept ≡ []
    → ((output : List ℕ) × P output × HandsOver output before kept now kept') → AppendsPrefix now kept' after
    → (output : List ℕ) × P output × AppendsPrefix before output after
over_part_last P before now after kept kept' none (output, is, over) wrote =
    (output, is, hands_whole_part before now after output kept' (rw none at over) wrote)
