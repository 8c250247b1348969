-- A client's lines and the answers to them, one thing more.
use Rattle.std.proofs.Common.{◌≡◌, inl, inr, refl, sym, ◌∙◌, ap, subst, arith, ℕ, ◌==◌, if◌then◌else◌, Bool, true, false, List, [], ◌∷◌, ◌++◌, append_assoc, append-nil}
use Rattle.std.specs.Prelude.{All, map}
use Rattle.std.proofs.lemmas.Bool.Decides.{nat_tests}
use Rattle.std.proofs.lemmas.List.{map-append}
use Rattle.std.proofs.lemmas.List.Elements.{All-nil, All-push}
use Rattle.link_asks.specs.Answers.{changed_text_of}
use Rattle.link_asks.specs.declared.view.View.{View}
use Rattle.link_control.specs.ServingNow.{AreCut}
use Rattle.link_control.proofs.CutLemmas.{cut_closed, cut_longer, nothing_cut}
use Rattle.link_clients.specs.Seats.{lines_from, rest_from}
use Rattle.link_clients.specs.Visits.{Answer, AreSaid, IsAnswer, text_of}

-- ---- the lines

pub is_number : (a b : ℕ) → (a == b) ≡ true → a ≡ b
is_number a b is = grind (arith, nat_tests)

not_number : (a b : ℕ) → (a == b) ≡ false → a ≡ b → ⊥
not_number a b is same = grind (arith, nat_tests)

cut_moved : (bytes bytes_then : List ℕ) (lines lines_then : List (List ℕ)) (rest : List ℕ) → bytes_then ≡ bytes → lines_then ≡ lines → AreCut bytes lines rest → AreCut bytes_then lines_then rest
cut_moved bytes bytes_then lines lines_then rest same_bytes same_lines cut =
    subst (λ (l : List ℕ). AreCut l lines_then rest) (sym same_bytes) (subst (λ (l : List (List ℕ)). AreCut bytes l rest) (sym same_lines) cut)

-- a byte more, and then others
by_feed : (test : Bool) (b : ℕ) (more bytes rest : List ℕ) (lines : List (List ℕ)) → (b == 10) ≡ test
    → ((b ≡ 10) → AreCut ((bytes ++ 10 ∷ []) ++ more) ((lines ++ rest ∷ []) ++ lines_from [] more) (rest_from [] more))
    → ((b ≡ 10 → ⊥) → AreCut ((bytes ++ b ∷ []) ++ more) (lines ++ lines_from (rest ++ b ∷ []) more) (rest_from (rest ++ b ∷ []) more))
    → AreCut (bytes ++ b ∷ more) (lines ++ (if test then rest ∷ lines_from [] more else lines_from (rest ++ b ∷ []) more)) (if test then rest_from [] more else rest_from (rest ++ b ∷ []) more)
by_feed true b more bytes rest lines is feed other =
    let same = is_number b 10 is in
    cut_moved ((bytes ++ 10 ∷ []) ++ more) (bytes ++ b ∷ more) ((lines ++ rest ∷ []) ++ lines_from [] more) (lines ++ rest ∷ lines_from [] more) (rest_from [] more)
    (ap (λ (n : ℕ). bytes ++ n ∷ more) same ∙ sym (append_assoc bytes (10 ∷ []) more))
    (sym (append_assoc lines (rest ∷ []) (lines_from [] more)))
    (feed same)
by_feed false b more bytes rest lines is feed other =
    cut_moved ((bytes ++ b ∷ []) ++ more) (bytes ++ b ∷ more) (lines ++ lines_from (rest ++ b ∷ []) more) (lines ++ lines_from (rest ++ b ∷ []) more) (rest_from (rest ++ b ∷ []) more)
    (sym (append_assoc bytes (b ∷ []) more))
    refl
    (other (not_number b 10 is))

-- bytes that follow on these
cut_more : (more bytes rest : List ℕ) (lines : List (List ℕ)) → AreCut bytes lines rest → AreCut (bytes ++ more) (lines ++ lines_from rest more) (rest_from rest more)
unfolding lines_from rest_from
cut_more [] bytes rest lines cut = cut_moved bytes (bytes ++ []) lines (lines ++ []) rest (append-nil bytes) (append-nil lines) cut
cut_more (b ∷ more) bytes rest lines cut =
    by_feed (b == 10) b more bytes rest lines refl
    (λ _. cut_more more (bytes ++ 10 ∷ []) [] (lines ++ rest ∷ []) (cut_closed bytes rest lines cut))
    (λ differs. cut_more more (bytes ++ b ∷ []) (rest ++ b ∷ []) lines (cut_longer bytes rest lines b differs cut))

-- ---- what was said

-- an answer more
said_answer : (texts : List (List ℕ)) (answers : List Answer) (text : List ℕ) (answer : Answer) → text ≡ text_of answer → AreSaid texts answers → AreSaid (texts ++ text ∷ []) (answers ++ answer ∷ [])
unfolding AreSaid
said_answer [] [] text answer is said = inl (is, tt)
said_answer [] (one ∷ answers) text answer is said = absurd said
said_answer (before ∷ texts) [] text answer is said = inr (said.0, said_answer texts [] text answer is said.1)
said_answer (before ∷ texts) (one ∷ answers) text answer is (inl here) = inl (here.0, said_answer texts answers text answer is here.1)
said_answer (before ∷ texts) (one ∷ answers) text answer is (inr told) = inr (told.0, said_answer texts (one ∷ answers) text answer is told.1)

-- a line more that tells what is shown
said_news : (texts : List (List ℕ)) (answers : List Answer) (text : List ℕ) (view : View) (number : ℕ) → text ≡ changed_text_of view number → AreSaid texts answers → AreSaid (texts ++ text ∷ []) answers
unfolding AreSaid
said_news [] [] text view number is said = ((view, number, is), tt)
said_news [] (one ∷ answers) text view number is said = absurd said
said_news (before ∷ texts) [] text view number is said = (said.0, said_news texts [] text view number is said.1)
said_news (before ∷ texts) (one ∷ answers) text view number is (inl here) = inl (here.0, said_news texts answers text view number is here.1)
said_news (before ∷ texts) (one ∷ answers) text view number is (inr told) = inr (told.0, said_news texts (one ∷ answers) text view number is told.1)

-- ---- both

-- The whole lines of these bytes were answered in order by these texts, but for those that wait, and this rest stands behind the last line
-- feed.
pub record IsServedSoFar (bytes : List ℕ) (texts waiting : List (List ℕ)) (rest : List ℕ) : Type 0 where
  pub answers : List Answer
  pub cut : AreCut bytes (map (λ answer. answer.line) answers ++ waiting) rest
  pub each : All IsAnswer answers
  pub said : AreSaid texts answers

pub moved : (bytes bytes_then : List ℕ) (texts texts_then waiting waiting_then : List (List ℕ)) (rest rest_then : List ℕ)
    → bytes_then ≡ bytes → texts_then ≡ texts → waiting_then ≡ waiting → rest_then ≡ rest → IsServedSoFar bytes texts waiting rest → IsServedSoFar bytes_then texts_then waiting_then rest_then
moved bytes bytes_then texts texts_then waiting waiting_then rest rest_then same_bytes same_texts same_waiting same_rest was =
    subst (λ (l : List ℕ). IsServedSoFar l texts_then waiting_then rest_then) (sym same_bytes)
    (subst (λ (l : List (List ℕ)). IsServedSoFar bytes l waiting_then rest_then) (sym same_texts)
    (subst (λ (l : List (List ℕ)). IsServedSoFar bytes texts l rest_then) (sym same_waiting)
    (subst (λ (l : List ℕ). IsServedSoFar bytes texts waiting l) (sym same_rest) was)))

pub nothing_served : IsServedSoFar [] [] [] []
unfolding AreSaid
nothing_served = record { answers = []; cut = nothing_cut; each = All-nil IsAnswer; said = tt }

pub heard_more : (bytes more : List ℕ) (texts : List (List ℕ)) (rest : List ℕ) → IsServedSoFar bytes texts [] rest → IsServedSoFar (bytes ++ more) texts (lines_from rest more) (rest_from rest more)
heard_more bytes more texts rest was =
    let lines = map (λ (answer : Answer). answer.line) was.answers in
    record {
      answers = was.answers;
      cut = cut_more more bytes rest lines (cut_moved bytes bytes (lines ++ []) lines rest refl (sym (append-nil lines)) was.cut);
      each = was.each;
      said = was.said;
    }

pub answered_more : (bytes : List ℕ) (texts behind : List (List ℕ)) (rest : List ℕ) (answer : Answer) (text : List ℕ) → IsAnswer answer → text ≡ text_of answer
    → IsServedSoFar bytes texts (answer.line ∷ behind) rest → IsServedSoFar bytes (texts ++ text ∷ []) behind rest
answered_more bytes texts behind rest answer text is text_is was =
    let line : Answer → List ℕ = λ a. a.line in
    let lines = map line was.answers in
    record {
      answers = was.answers ++ answer ∷ [];
      cut = cut_moved bytes bytes (lines ++ answer.line ∷ behind) (map line (was.answers ++ answer ∷ []) ++ behind) rest refl
          (ap (λ (l : List (List ℕ)). l ++ behind) (map-append line was.answers (answer ∷ [])) ∙ append_assoc lines (answer.line ∷ []) behind) was.cut;
      each = All-push IsAnswer was.answers answer was.each is;
      said = said_answer texts was.answers text answer text_is was.said;
    }

pub told_more : (bytes : List ℕ) (texts waiting : List (List ℕ)) (rest : List ℕ) (view : View) (number : ℕ) (text : List ℕ) → text ≡ changed_text_of view number
    → IsServedSoFar bytes texts waiting rest → IsServedSoFar bytes (texts ++ text ∷ []) waiting rest
told_more bytes texts waiting rest view number text is was = record {
  answers = was.answers;
  cut = was.cut;
  each = was.each;
  said = said_news texts was.answers text view number is was.said;
}
