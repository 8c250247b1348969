-- What a client's visit comes to, from when it came to a seat on.
use Rattle.std.specs.Prelude.{◌≡◌, ◌⊎◌, ℕ, ℤ, ◌==◌, Bool, true, if◌then◌else◌, List, [], ◌∷◌, ◌++◌, map, Option, IfNone, All}
use Rattle.audio_handoff.specs.Cell.{Pair}
use Rattle.lk_talks.specs.Talks.{Passed, comes, hears, leaves, says, shuts}
use Rattle.link_asks.specs.Answers.{Facts, answer_to, changed_text_of}
use Rattle.link_asks.specs.Asks.{IsAsked}
use Rattle.link_asks.specs.Reasons.{IsReason}
use Rattle.link_asks.specs.declared.ask.Ask.{Ask}
use Rattle.link_asks.specs.declared.reason.Reason.{Reason}
use Rattle.link_asks.specs.declared.view.View.{View}
use Rattle.link_control.specs.Lines.{whole_lines_of}
use Rattle.link_control.specs.Log.{Numbered, captured_over}
use Rattle.link_clients.specs.Deeds.{Deed, passed_in}
use Rattle.link_clients.specs.Lawful.{AreLawful}
use Rattle.link_clients.specs.Seats.{seat_in}
use Rattle.link_clients.specs.declared.terms.Terms.{Terms}

-- ---- of what passed

-- what passed since a client came to this seat last, behind what was there before
unfoldable pub visit_after : ℕ → List Passed → List Passed → List Passed
visit_after s before [] = before
visit_after s before (comes t ∷ passed) = if t == s then visit_after s [] passed else visit_after s (before ++ comes t ∷ []) passed
visit_after s before (hears t bytes ∷ passed) = visit_after s (before ++ hears t bytes ∷ []) passed
visit_after s before (says t bytes ∷ passed) = visit_after s (before ++ says t bytes ∷ []) passed
visit_after s before (leaves t ∷ passed) = visit_after s (before ++ leaves t ∷ []) passed
visit_after s before (shuts t ∷ passed) = visit_after s (before ++ shuts t ∷ []) passed

-- all bytes that were heard of the client in this seat
unfoldable pub bytes_heard : ℕ → List Passed → List ℕ
bytes_heard s [] = []
bytes_heard s (comes t ∷ passed) = bytes_heard s passed
bytes_heard s (hears t bytes ∷ passed) = if t == s then bytes ++ bytes_heard s passed else bytes_heard s passed
bytes_heard s (says t bytes ∷ passed) = bytes_heard s passed
bytes_heard s (leaves t ∷ passed) = bytes_heard s passed
bytes_heard s (shuts t ∷ passed) = bytes_heard s passed

-- what was said to it, in order
unfoldable pub texts_said : ℕ → List Passed → List (List ℕ)
texts_said s [] = []
texts_said s (comes t ∷ passed) = texts_said s passed
texts_said s (hears t bytes ∷ passed) = texts_said s passed
texts_said s (says t bytes ∷ passed) = if t == s then bytes ∷ texts_said s passed else texts_said s passed
texts_said s (leaves t ∷ passed) = texts_said s passed
texts_said s (shuts t ∷ passed) = texts_said s passed

-- ---- answers

-- a line with its answer: what it asks for, or what is wrong with it, what the answer is made of, and the pair that was captured for it by
-- a pass with this last commit of its own
pub record Answer : Type 0 where
  pub line : List ℕ
  pub asked : Option Ask
  pub reason : Reason
  pub facts : Facts
  pub own : Option Numbered
  pub pair : Pair

-- the answer is to the line, by the one state that was captured
pub record IsAnswer (answer : Answer) : Type 0 where
  pub asked : IsAsked answer.line answer.asked
  pub reason : IfNone answer.asked (IsReason answer.line answer.reason)
  pub published : answer.facts.published ≡ (captured_over answer.own answer.pair).number
  pub shown : answer.facts.shown ≡ (captured_over answer.own answer.pair).shown

abbrev pub text_of : Answer → List ℕ
text_of answer = answer_to answer.asked answer.reason answer.facts

-- what was said are the answers, each once and in order, and between them lines that tell what is shown
unfoldable pub AreSaid : List (List ℕ) → List Answer → Type 0
AreSaid [] [] = Unit {0}
AreSaid [] (answer ∷ answers) = ⊥
AreSaid (text ∷ texts) [] = ((view : View) × (number : ℕ) × (text ≡ changed_text_of view number)) × AreSaid texts []
AreSaid (text ∷ texts) (answer ∷ answers) =
    ((text ≡ text_of answer) × AreSaid texts answers)
    ⊎ (((view : View) × (number : ℕ) × (text ≡ changed_text_of view number)) × AreSaid texts (answer ∷ answers))

-- Rule: Since a client came, its whole lines, however its bytes were cut, were answered each once and in order; those that aren't answered
-- yet are the last.
pub record IsVisit (may_end : Bool) (own : Option Numbered) (done : List Deed) (s : ℕ) : Type 0 where
  pub answers : List Answer
  pub whole : whole_lines_of (bytes_heard s (visit_after s [] (passed_in may_end own done)))
      ≡ map (λ answer. answer.line) answers ++ (seat_in own s done).waiting
  pub each : All IsAnswer answers
  pub said : AreSaid (texts_said s (visit_after s [] (passed_in may_end own done))) answers

-- so it is for whoever is there after what may be done
abbrev pub AreAnsweredInOrder : Type 0
AreAnsweredInOrder = (terms : Terms) (own : Option Numbered) (late : Option ℤ) (done : List Deed) (s : ℕ) → AreLawful terms late own done
    → (seat_in own s done).here ≡ true → IsVisit terms.may_end own done s
