-- What answers pairs, one after the other, and that a text of pairs has an output, and one.
use Rattle.std.proofs.Common.{◌≡◌, inl, inr, refl, sym, subst, ap, ◌∙◌, arith, ℕ, ℤ, ◌+◌, ◌<◌, ◌≤◌, ◌^◌, List, [], ◌∷◌, ◌++◌, length, drop, Bool, true, false, not, Option, Some, None, Result, Ok, Err}
use Rattle.std.specs.Bool.{OnTrue, OnFalse}
use Rattle.std.specs.Int.{from_bool}
use Rattle.std.specs.List.{All, concat}
use Rattle.std.specs.Result.{OnOk, OnErr}
use Rattle.std.proofs.lemmas.List.{append_assoc, append-nil, length_push, length-drop}
use Rattle.std.proofs.lemmas.List.Elements.{All-head, All-tail, All-same}
use Rattle.std.proofs.lemmas.List.Folds.{concat-append}
use Rattle.lk_base.specs.Ranges.{IsWithin, IsWithinLimit}
use Rattle.link_hostfilter.specs.Fit.{IsFiltered}
use Rattle.link_hostfilter.specs.Kept.{AreKept, AreNear, AreWithin, fault_of, last, with_new}
use Rattle.link_hostfilter.specs.declared.fault.FilterFault.{FilterFault}
use Rattle.link_hostfilter.specs.declared.pair.Pair.{Pair}
use Rattle.link_lines.specs.Lines.{lines_of}
use Rattle.link_text.specs.PairLine.{IsPairLine}
use Rattle.link_commands.specs.FilterText.{host_line_of, refusal_line_of, totals_line_of, IsAccepted, IsRefused, AreAnswers, IsFilterText, HasOneFilterText}
use Rattle.link_commands.specs.Outlet.{HandsOver, HandsPart}
use Rattle.link_commands.specs.PairLines.{SaysPair, IsSomePair, IsNoPair, IsPairText, IsFirstNoPair, SayPairs}
use Rattle.link_commands.proofs.DecodeLemmas.{all_back}
use Rattle.link_commands.proofs.LineLemmas.{lines_end}
use Rattle.link_commands.proofs.OutletLemmas.{hands_none, hands_both, part_after, part_of_more}

-- ---- the laws of a filter

-- pairs that are kept have a filtered host time
abbrev pub AreFiltered : Type 0
AreFiltered = (pairs : List Pair) → AreKept pairs → 0 < length pairs → (host : ℤ) × IsFiltered pairs host × IsWithin (2 ^ 61) host

-- a pair that isn't refused leaves pairs that may be kept
abbrev pub StayKept : Type 0
StayKept = (new : Pair) (pairs : List Pair) → AreKept pairs → IsWithinLimit new.sample → IsWithinLimit new.host
    → fault_of new pairs ≡ None → AreKept (with_new new pairs)

-- the last of the last are those of all
abbrev pub IsLastOfAll : Type 0
IsLastOfAll = (new : Pair) (pairs : List Pair) → with_new new (last 512 pairs) ≡ with_new new pairs

pub record Laws : Type 0 where
  pub filtered : AreFiltered
  pub kept : StayKept
  pub last_of_all : IsLastOfAll

none_kept : AreKept (last 512 [])
unfolding last AreNear AreWithin
none_kept = record { few = omega arith; near = tt; limits = tt }

-- the pairs of a filter after one that was accepted
next_last : (law : IsLastOfAll) (accepted : List Pair) (pair : Pair) → with_new pair (last 512 accepted) ≡ last 512 (accepted ++ pair ∷ [])
unfolding with_new
next_last law accepted pair = law pair accepted

next_kept : (laws : Laws) (line : List ℕ) (accepted : List Pair) (pair : Pair) → AreKept (last 512 accepted) → SaysPair line pair
    → fault_of pair (last 512 accepted) ≡ None → AreKept (last 512 (accepted ++ pair ∷ []))
next_kept laws line accepted pair kept says taken =
    subst AreKept (next_last laws.last_of_all accepted pair) (laws.kept pair (last 512 accepted) kept says.first_within says.second_within taken)

some_last : (accepted : List Pair) (pair : Pair) → 0 < length (last 512 (accepted ++ pair ∷ []))
unfolding last
some_last accepted pair = omega (arith, length_push accepted pair, length-drop {A = Pair})

-- ---- the rest of a text is answered too

pub record Answered (accepted : List Pair) (lines : List (List ℕ)) : Type 0 where
  pub pairs : List Pair
  pub said : SayPairs lines pairs
  pub answers : List (List ℕ)
  pub refused : ℕ
  pub answered : AreAnswers accepted pairs answers refused

answered_end : (accepted : List Pair) → Answered accepted []
unfolding AreAnswers
answered_end accepted = record { pairs = []; said = tt; answers = []; refused = 0; answered = refl }

answered_first : (laws : Laws) (accepted : List Pair) (line : List ℕ) (lines : List (List ℕ)) (pair : Pair) (fault : Option FilterFault)
    → AreKept (last 512 accepted) → SaysPair line pair → fault_of pair (last 512 accepted) ≡ fault
    → (AreKept (last 512 (accepted ++ pair ∷ [])) → Answered (accepted ++ pair ∷ []) lines) → Answered accepted lines
    → Answered accepted (line ∷ lines)
unfolding AreAnswers
answered_first laws accepted line lines pair None kept says is taken other =
    let kept' = next_kept laws line accepted pair kept says is in
    let host = laws.filtered (last 512 (accepted ++ pair ∷ [])) kept' (some_last accepted pair) in
    let rest = taken kept' in
    record {
      pairs = pair ∷ rest.pairs;
      said = (says, rest.said);
      answers = host_line_of host.0 ∷ rest.answers;
      refused = rest.refused;
      answered = inl (record { taken = is; host = host.0; filtered = host.1; said = refl }, rest.answered);
    }
answered_first laws accepted line lines pair (Some fault) kept says is taken other = record {
  pairs = pair ∷ other.pairs;
  said = (says, other.said);
  answers = refusal_line_of fault ∷ other.answers;
  refused = other.refused + 1;
  answered = inr (record { fault = fault; refused = is; said = refl }, (other.refused, refl, other.answered));
}

all_answered : (laws : Laws) (accepted : List Pair) (lines : List (List ℕ)) → AreKept (last 512 accepted) → All IsSomePair lines
    → Answered accepted lines
all_answered laws accepted [] kept good = answered_end accepted
all_answered laws accepted (line ∷ lines) kept good =
    let first = All-head IsSomePair line lines good in
    let rest = All-tail IsSomePair line lines good in
    answered_first laws accepted line lines first.0 _ kept first.1 refl
    (λ kept'. all_answered laws (accepted ++ first.0 ∷ []) lines kept' rest) (all_answered laws accepted lines kept rest)

-- ---- how far a text is answered

-- the lines before `at` say pairs, and these answer them; the filter holds the last that were accepted
pub record HasAnswers (text : List ℕ) (at pairs refused : ℕ) (filter : List Pair) (answers : List (List ℕ)) : Type 0 where
  pub before : List (List ℕ)
  pub lines : lines_of text ≡ before ++ lines_of (drop at text)
  pub so_far : List Pair
  pub said : SayPairs before so_far
  pub count : pairs ≡ length so_far
  pub fewer : refused ≤ pairs
  pub few : pairs ≤ at
  pub within : at ≤ length text
  pub accepted : List Pair
  pub last_are : filter ≡ last 512 accepted
  pub kept : AreKept filter
  -- what answers further pairs answers all of them behind these
  pub behind : (more : List Pair) (others : List (List ℕ)) (further : ℕ) → AreAnswers accepted more others further
      → AreAnswers [] (so_far ++ more) (answers ++ others) (refused + further)

no_last : (filter : List Pair) → filter ≡ [] → filter ≡ last 512 []
unfolding last
no_last filter none = none

answers_none : (text : List ℕ) (filter : List Pair) → filter ≡ [] → HasAnswers text 0 0 0 filter []
answers_none text filter none = record {
  before = [];
  lines = refl;
  so_far = [];
  said = tt;
  count = refl;
  fewer = omega arith;
  few = omega arith;
  within = omega arith;
  accepted = [];
  last_are = no_last filter none;
  kept = rw (no_last filter none) none_kept;
  behind = λ more others further are.
      let none : 0 + further ≡ further = omega arith in
      rw none are;
}

say_both : (lines more : List (List ℕ)) (pairs others : List Pair) → SayPairs lines pairs → SayPairs more others
    → SayPairs (lines ++ more) (pairs ++ others)
say_both [] more [] others say rest = rest
say_both [] more (p ∷ pairs) others say rest = absurd say
say_both (l ∷ lines) more [] others say rest = absurd say
say_both (l ∷ lines) more (p ∷ pairs) others say rest = (say.0, say_both lines more pairs others say.1 rest)

-- a pair was accepted, or refused, after any that were accepted whose last the filter held
abbrev pub Accepts : List ℕ → List ℕ → List Pair → List Pair → Type 0
Accepts line said before after =
    (accepted : List Pair) → before ≡ last 512 accepted
    → (pair : Pair) × SaysPair line pair × IsAccepted accepted pair said × (after ≡ last 512 (accepted ++ pair ∷ []))

abbrev pub Refuses : List ℕ → List ℕ → List Pair → List Pair → Type 0
Refuses line said before after =
    (accepted : List Pair) → before ≡ last 512 accepted
    → (pair : Pair) × SaysPair line pair × IsRefused accepted pair said × (after ≡ before)

pub accepts : (law : IsLastOfAll) (line said : List ℕ) (sample host filtered s h f : ℤ) (before after : List Pair) → IsPairLine line sample host
    → fault_of (record { sample = s; host = h }) before ≡ None → after ≡ with_new (record { sample = s; host = h }) before
    → IsFiltered after filtered → said ≡ host_line_of f → s ≡ sample → h ≡ host → f ≡ filtered → Accepts line said before after
accepts law line said sample host filtered s h f before after says none next is tells same_sample same_host same_filtered accepted last_are =
    let pair : Pair = record { sample = s; host = h } in
    let next_are : after ≡ last 512 (accepted ++ pair ∷ []) = next ∙ ap (with_new pair) last_are ∙ next_last law accepted pair in (
      pair,
      rw (same_sample, same_host) says,
      record {
        taken = subst (λ (ps : List Pair). fault_of pair ps ≡ None) last_are none;
        host = filtered;
        filtered = subst (λ (ps : List Pair). IsFiltered ps filtered) next_are is;
        said = tells ∙ ap host_line_of same_filtered;
      },
      next_are,
    )

lines_more : (before : List (List ℕ)) (text line : List ℕ) (at next : ℕ) → lines_of text ≡ before ++ lines_of (drop at text)
    → lines_of (drop at text) ≡ line ∷ lines_of (drop next text) → lines_of text ≡ (before ++ line ∷ []) ++ lines_of (drop next text)
lines_more before text line at next are next_are =
    are ∙ ap (λ (ls : List (List ℕ)). before ++ ls) next_are ∙ sym (append_assoc before (line ∷ []) (lines_of (drop next text)))

accepted_more : (laws : Laws) (text line said : List ℕ) (at next pairs refused : ℕ) (before after : List Pair) (answers : List (List ℕ))
    → HasAnswers text at pairs refused before answers
    → lines_of (drop at text) ≡ line ∷ lines_of (drop next text) → at < next → next ≤ length text → Accepts line said before after
    → HasAnswers text next (pairs + 1) refused after (answers ++ said ∷ [])
unfolding AreAnswers
accepted_more laws text line said at next pairs refused before after answers has lines further within takes =
    let step = takes has.accepted has.last_are in
    let kept : AreKept (last 512 has.accepted) = rw has.last_are at has.kept in
    record {
      before = has.before ++ line ∷ [];
      lines = lines_more has.before text line at next has.lines lines;
      so_far = has.so_far ++ step.0 ∷ [];
      said = say_both has.before (line ∷ []) has.so_far (step.0 ∷ []) has.said (step.1, tt);
      count = omega (arith, has.count, length_push has.so_far step.0);
      fewer = omega (arith, has.fewer);
      few = omega (arith, has.few);
      within = within;
      accepted = has.accepted ++ step.0 ∷ [];
      last_are = step.3;
      kept = rw step.3 (next_kept laws line has.accepted step.0 kept step.1 step.2.taken);
      behind = λ more others extra are.
          rw (append_assoc has.so_far (step.0 ∷ []) more, append_assoc answers (said ∷ []) others)
          (has.behind (step.0 ∷ more) (said ∷ others) extra (inl (step.2, are)));
    }

refused_more : (text line said : List ℕ) (at next pairs refused : ℕ) (before after : List Pair) (answers : List (List ℕ))
    → HasAnswers text at pairs refused before answers
    → lines_of (drop at text) ≡ line ∷ lines_of (drop next text) → at < next → next ≤ length text → Refuses line said before after
    → HasAnswers text next (pairs + 1) (refused + 1) after (answers ++ said ∷ [])
unfolding AreAnswers
refused_more text line said at next pairs refused before after answers has lines further within takes =
    let step = takes has.accepted has.last_are in
    record {
      before = has.before ++ line ∷ [];
      lines = lines_more has.before text line at next has.lines lines;
      so_far = has.so_far ++ step.0 ∷ [];
      said = say_both has.before (line ∷ []) has.so_far (step.0 ∷ []) has.said (step.1, tt);
      count = omega (arith, has.count, length_push has.so_far step.0);
      fewer = omega (arith, has.fewer);
      few = omega (arith, has.few);
      within = within;
      accepted = has.accepted;
      last_are = step.3 ∙ has.last_are;
      kept = rw step.3 has.kept;
      behind = λ more others extra are.
          let sum : refused + 1 + extra ≡ refused + (extra + 1) = omega arith in
          rw (append_assoc has.so_far (step.0 ∷ []) more, append_assoc answers (said ∷ []) others, sum)
          (has.behind (step.0 ∷ more) (said ∷ others) (extra + 1) (inr (step.2, (extra, refl, are))));
    }

-- one pair more is answered
answers_more : (laws : Laws) (text line said : List ℕ) (at next pairs refused counted : ℕ) (before after : List Pair) (answers : List (List ℕ)) (is_accepted : Bool)
    → HasAnswers text at pairs refused before answers
    → lines_of (drop at text) ≡ line ∷ lines_of (drop next text) → at < next → next ≤ length text
    → OnTrue is_accepted (Accepts line said before after) → OnFalse is_accepted (Refuses line said before after)
    → counted ≡ from_bool (not is_accepted)
    → HasAnswers text next (pairs + 1) (refused + counted) after (answers ++ said ∷ [])
answers_more laws text line said at next pairs refused counted before after answers true has lines further within takes refuses is =
    let none : counted ≡ 0 = is in
    let same : refused + counted ≡ refused = omega (arith, none) in
    rw same (accepted_more laws text line said at next pairs refused before after answers has lines further within takes)
answers_more laws text line said at next pairs refused counted before after answers false has lines further within takes refuses is =
    let one : counted ≡ 1 = is in
    rw one (refused_more text line said at next pairs refused before after answers has lines further within refuses)

-- whatever is answered so far, the text has an output that begins so
some_text : (laws : Laws) (text : List ℕ) (at pairs refused : ℕ) (filter : List Pair) (answers : List (List ℕ))
    → HasAnswers text at pairs refused filter answers → IsPairText text → (tail : List ℕ) × IsFilterText text (concat answers ++ tail)
some_text laws text at pairs refused filter answers has good =
    let lines = lines_of (drop at text) in
    let good_rest : All IsSomePair lines = all_back IsSomePair has.before lines (All-same IsSomePair (has.before ++ lines) (lines_of text) (sym has.lines) good) in
    let rest = all_answered laws has.accepted lines (rw has.last_are at has.kept) good_rest in
    let totals = totals_line_of (length (has.so_far ++ rest.pairs)) (refused + rest.refused) in (
      concat rest.answers ++ totals,
      record {
        pairs = has.so_far ++ rest.pairs;
        lines = subst (λ (ls : List (List ℕ)). SayPairs ls (has.so_far ++ rest.pairs)) (sym has.lines) (say_both has.before lines has.so_far rest.pairs has.said rest.said);
        answers = answers ++ rest.answers;
        refused = refused + rest.refused;
        answered = has.behind rest.pairs rest.answers rest.refused rest.answered;
        whole = sym (append_assoc (concat answers) (concat rest.answers) totals)
            ∙ ap (λ (xs : List ℕ). xs ++ totals) (sym (concat-append answers rest.answers));
      },
    )

-- all is answered
whole_text : (text : List ℕ) (at pairs refused : ℕ) (filter : List Pair) (answers : List (List ℕ))
    → HasAnswers text at pairs refused filter answers → length text ≤ at → IsFilterText text (concat answers ++ totals_line_of pairs refused)
unfolding AreAnswers
whole_text text at pairs refused filter answers has all =
    let lines : lines_of text ≡ has.before =
    has.lines ∙ ap (λ (ls : List (List ℕ)). has.before ++ ls) (lines_end text at all) ∙ append-nil has.before in
    let are : AreAnswers [] (has.so_far ++ []) (answers ++ []) (refused + 0) = has.behind [] [] 0 refl in
    let none : refused + 0 ≡ refused = omega arith in
    let pairs_are : AreAnswers [] has.so_far (answers ++ []) (refused + 0) = subst (λ (ps : List Pair). AreAnswers [] ps (answers ++ []) (refused + 0)) (append-nil has.so_far) are in
    record {
      pairs = has.so_far;
      lines = subst (λ (ls : List (List ℕ)). SayPairs ls has.so_far) (sym lines) has.said;
      answers = answers;
      refused = refused;
      answered = subst (λ (n : ℕ). AreAnswers [] has.so_far answers n) none
          (subst (λ (xs : List (List ℕ)). AreAnswers [] has.so_far xs (refused + 0)) (append-nil answers) pairs_are);
      whole = ap (λ (n : ℕ). concat answers ++ totals_line_of n refused) has.count;
    }

-- ---- the answers on their way to the sink

pub record HasHandedAnswers (text : List ℕ) (at pairs refused : ℕ) (filter : List Pair) (start : Option (List ℕ)) (kept : List ℕ) (now : Option (List ℕ)) (kept' : List ℕ) : Type 0 where
  pub answers : List (List ℕ)
  pub has : HasAnswers text at pairs refused filter answers
  pub way : HandsOver (concat answers) start kept now kept'

pub handed_none : (text : List ℕ) (filter : List Pair) (start : Option (List ℕ)) (kept : List ℕ) → filter ≡ []
    → HasHandedAnswers text 0 0 0 filter start kept start kept
handed_none text filter start kept none = record { answers = []; has = answers_none text filter none; way = hands_none start kept }

-- the line at `at` says a pair
pub pair_holds : (text line : List ℕ) (at pairs refused : ℕ) (filter : List Pair) (start : Option (List ℕ)) (kept : List ℕ) (now : Option (List ℕ)) (kept' : List ℕ) (rest : List (List ℕ))
    → HasHandedAnswers text at pairs refused filter start kept now kept' → lines_of (drop at text) ≡ line ∷ rest → IsPairText text → IsSomePair line
pair_holds text line at pairs refused filter start kept now kept' rest handed lines good =
    let before = handed.has.before in
    let whole : All IsSomePair (before ++ line ∷ rest) = All-same IsSomePair (before ++ line ∷ rest) (lines_of text) (sym (handed.has.lines ∙ ap (λ (ls : List (List ℕ)). before ++ ls) lines)) good in
    All-head IsSomePair line rest (all_back IsSomePair before (line ∷ rest) whole)

concat_push : (answers : List (List ℕ)) (said : List ℕ) → concat (answers ++ said ∷ []) ≡ concat answers ++ said
concat_push answers said = concat-append answers (said ∷ []) ∙ ap (λ (xs : List ℕ). concat answers ++ xs) (append-nil said)

-- the next answer is handed over too
pub handed_more : (laws : Laws) (text line said : List ℕ) (at next pairs refused counted : ℕ) (before after : List Pair) (is_accepted : Bool)
    (start : Option (List ℕ)) (kept : List ℕ) (now : Option (List ℕ)) (kept' : List ℕ) (then_ : Option (List ℕ)) (kept'' : List ℕ)
    → HasHandedAnswers text at pairs refused before start kept now kept'
    → lines_of (drop at text) ≡ line ∷ lines_of (drop next text) → at < next → next ≤ length text
    → OnTrue is_accepted (Accepts line said before after) → OnFalse is_accepted (Refuses line said before after)
    → counted ≡ from_bool (not is_accepted) → HandsOver said now kept' then_ kept''
    → HasHandedAnswers text next (pairs + 1) (refused + counted) after start kept then_ kept''
handed_more laws text line said at next pairs refused counted before after is_accepted start kept now kept' then_ kept'' handed lines further within takes refuses is over = record {
  answers = handed.answers ++ said ∷ [];
  has = answers_more laws text line said at next pairs refused counted before after handed.answers is_accepted handed.has lines further within takes refuses is;
  way = rw (concat_push handed.answers said) (hands_both start now then_ kept kept' kept'' (concat handed.answers) said handed.way over);
}

-- the sink failed at the next answer
pub handed_part : (laws : Laws) (text line said : List ℕ) (at next pairs refused : ℕ) (before after : List Pair) (is_accepted : Bool)
    (start : Option (List ℕ)) (kept : List ℕ) (now : Option (List ℕ)) (kept' : List ℕ) (then_ : Option (List ℕ))
    → HasHandedAnswers text at pairs refused before start kept now kept'
    → lines_of (drop at text) ≡ line ∷ lines_of (drop next text) → at < next → next ≤ length text
    → OnTrue is_accepted (Accepts line said before after) → OnFalse is_accepted (Refuses line said before after)
    → IsPairText text → HandsPart said now kept' then_
    → (output : List ℕ) × IsFilterText text output × HandsPart output start kept then_
handed_part laws text line said at next pairs refused before after is_accepted start kept now kept' then_ handed lines further within takes refuses good part =
    let has = answers_more laws text line said at next pairs refused _ before after handed.answers is_accepted handed.has lines further within takes refuses refl in
    let whole = some_text laws text next (pairs + 1) _ after (handed.answers ++ said ∷ []) has good in
    let here = part_after start now then_ kept kept' (concat handed.answers) said handed.way part in
    let pushed : HandsPart (concat (handed.answers ++ said ∷ [])) start kept then_ = rw (concat_push handed.answers said) here in
    (concat (handed.answers ++ said ∷ []) ++ whole.0, whole.1, part_of_more start then_ kept (concat (handed.answers ++ said ∷ [])) whole.0 pushed)

-- the totals are handed over, or the sink failed at them
pub totals_over : {T E : Type 0} (result : Result T E) (text said : List ℕ) (at pairs refused : ℕ) (filter : List Pair)
    (start : Option (List ℕ)) (kept : List ℕ) (now : Option (List ℕ)) (kept' : List ℕ) (then_ : Option (List ℕ)) (kept'' : List ℕ)
    → HasHandedAnswers text at pairs refused filter start kept now kept' → length text ≤ at → said ≡ totals_line_of pairs refused
    → OnOk result (HandsOver said now kept' then_ kept'')
    → OnOk result ((output : List ℕ) × IsFilterText text output × HandsOver output start kept then_ kept'')
totals_over (Ok value) text said at pairs refused filter start kept now kept' then_ kept'' handed all is over = (
  concat handed.answers ++ said,
  rw is (whole_text text at pairs refused filter handed.answers handed.has all),
  hands_both start now then_ kept kept' kept'' (concat handed.answers) said handed.way over,
)
totals_over (Err failure) text said at pairs refused filter start kept now kept' then_ kept'' handed all is over = tt

pub totals_part : {T E : Type 0} (result : Result T E) (text said : List ℕ) (at pairs refused : ℕ) (filter : List Pair)
    (start : Option (List ℕ)) (kept : List ℕ) (now : Option (List ℕ)) (kept' : List ℕ) (then_ : Option (List ℕ))
    → HasHandedAnswers text at pairs refused filter start kept now kept' → length text ≤ at → said ≡ totals_line_of pairs refused
    → OnErr result (HandsPart said now kept' then_)
    → OnErr result ((output : List ℕ) × IsFilterText text output × HandsPart output start kept then_)
totals_part (Ok value) text said at pairs refused filter start kept now kept' then_ handed all is part = tt
totals_part (Err failure) text said at pairs refused filter start kept now kept' then_ handed all is part = (
  concat handed.answers ++ said,
  rw is (whole_text text at pairs refused filter handed.answers handed.has all),
  part_after start now then_ kept kept' (concat handed.answers) said handed.way part,
)

-- ---- one output

abbrev pub HasOneValue : Type 0
HasOneValue = (pairs : List Pair) (a b : ℤ) → IsFiltered pairs a → IsFiltered pairs b → a ≡ b

abbrev pub SaysOnePair : Type 0
SaysOnePair = (line : List ℕ) (first second third fourth : ℤ) → IsPairLine line first second → IsPairLine line third fourth
    → (first ≡ third) × (second ≡ fourth)

abbrev pair_from : ℤ → ℤ → Pair
pair_from sample host = record { sample = sample; host = host }

pairs_once : (law : SaysOnePair) (lines : List (List ℕ)) (pairs others : List Pair) → SayPairs lines pairs → SayPairs lines others → pairs ≡ others
pairs_once law [] [] [] p q = refl
pairs_once law [] [] (o ∷ others) p q = absurd q
pairs_once law [] (t ∷ pairs) others p q = absurd p
pairs_once law (l ∷ lines) [] others p q = absurd p
pairs_once law (l ∷ lines) (t ∷ pairs) [] p q = absurd q
pairs_once law (l ∷ lines) (t ∷ pairs) (o ∷ others) p q =
    let same = law l t.sample t.host o.sample o.host p.0 q.0 in
    let pair : t ≡ o = ap (λ (z : ℤ). pair_from z t.host) same.0 ∙ ap (pair_from o.sample) same.1 in
    ap (λ (x : Pair). x ∷ pairs) pair ∙ ap (λ (xs : List Pair). o ∷ xs) (pairs_once law lines pairs others p.1 q.1)

host_once : (law : HasOneValue) (accepted : List Pair) (pair : Pair) (line other : List ℕ) → IsAccepted accepted pair line → IsAccepted accepted pair other → line ≡ other
host_once law accepted pair line other p q = p.said ∙ ap host_line_of (law _ p.host q.host p.filtered q.filtered) ∙ sym q.said

some_once : {A : Type 0} {one other : A} → Some one ≡ Some other → one ≡ other
some_once is = cc

refusal_once : (accepted : List Pair) (pair : Pair) (line other : List ℕ) → IsRefused accepted pair line → IsRefused accepted pair other → line ≡ other
refusal_once accepted pair line other p q = p.said ∙ ap refusal_line_of (some_once (sym p.refused ∙ q.refused)) ∙ sym q.said

not_both : (accepted : List Pair) (pair : Pair) (line other : List ℕ) → IsAccepted accepted pair line → IsRefused accepted pair other → ⊥
not_both accepted pair line other p q = differ (sym p.taken ∙ q.refused)
  where
    differ : None ≡ Some q.fault → ⊥
    differ h = cc

answers_once : (law : HasOneValue) (accepted pairs : List Pair) (answers others : List (List ℕ)) (m n : ℕ)
    → AreAnswers accepted pairs answers m → AreAnswers accepted pairs others n → (answers ≡ others) × (m ≡ n)
unfolding AreAnswers
answers_once law accepted [] [] [] m n p q = (refl, p ∙ sym q)
answers_once law accepted [] [] (o ∷ others) m n p q = absurd q
answers_once law accepted [] (a ∷ answers) others m n p q = absurd p
answers_once law accepted (t ∷ pairs) [] others m n p q = absurd p
answers_once law accepted (t ∷ pairs) (a ∷ answers) [] m n p q = absurd q
answers_once law accepted (t ∷ pairs) (a ∷ answers) (o ∷ others) m n (inl p) (inl q) =
    let rest = answers_once law (accepted ++ t ∷ []) pairs answers others m n p.1 q.1 in
    (ap (λ (x : List ℕ). x ∷ answers) (host_once law accepted t a o p.0 q.0) ∙ ap (λ (xs : List (List ℕ)). o ∷ xs) rest.0, rest.1)
answers_once law accepted (t ∷ pairs) (a ∷ answers) (o ∷ others) m n (inl p) (inr q) = absurd (not_both accepted t a o p.0 q.0)
answers_once law accepted (t ∷ pairs) (a ∷ answers) (o ∷ others) m n (inr p) (inl q) = absurd (not_both accepted t o a q.0 p.0)
answers_once law accepted (t ∷ pairs) (a ∷ answers) (o ∷ others) m n (inr p) (inr q) =
    let rest = answers_once law accepted pairs answers others p.1.0 q.1.0 p.1.2 q.1.2 in (
      ap (λ (x : List ℕ). x ∷ answers) (refusal_once accepted t a o p.0 q.0) ∙ ap (λ (xs : List (List ℕ)). o ∷ xs) rest.0,
      p.1.1 ∙ ap (λ (k : ℕ). k + 1) rest.1 ∙ sym q.1.1,
    )

pub one_filter_text : (value : HasOneValue) (line : SaysOnePair) → HasOneFilterText
one_filter_text value line text output other p q =
    let pairs = pairs_once line (lines_of text) p.pairs q.pairs p.lines q.lines in
    let are : AreAnswers [] q.pairs p.answers p.refused = subst (λ (ps : List Pair). AreAnswers [] ps p.answers p.refused) pairs p.answered in
    let once = answers_once value [] q.pairs p.answers q.answers p.refused q.refused are q.answered in
    p.whole
    ∙ ap (λ (xs : List (List ℕ)). concat xs ++ totals_line_of (length p.pairs) p.refused) once.0
    ∙ ap (λ (ps : List Pair). concat q.answers ++ totals_line_of (length ps) p.refused) pairs
    ∙ ap (λ (n : ℕ). concat q.answers ++ totals_line_of (length q.pairs) n) once.1
    ∙ sym q.whole

-- a text with a line that says no pair has none
none_among : (before : List (List ℕ)) (line : List ℕ) (after : List (List ℕ)) (pairs : List Pair) → SayPairs (before ++ line ∷ after) pairs → IsNoPair line → ⊥
none_among [] line after [] say none = say
none_among [] line after (t ∷ pairs) say none = none (t, say.0)
none_among (b ∷ before) line after [] say none = say
none_among (b ∷ before) line after (t ∷ pairs) say none = none_among before line after pairs say.1 none

pub bad_and_filtered : (text output : List ℕ) (k : ℕ) → IsFirstNoPair text k → IsFilterText text output → ⊥
bad_and_filtered text output k first whole =
    none_among first.before first.line first.after whole.pairs
    (subst (λ (lines : List (List ℕ)). SayPairs lines whole.pairs) first.split whole.lines) first.bad
