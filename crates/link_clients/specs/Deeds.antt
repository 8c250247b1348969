-- What is done in serving clients. A history is a list of deeds, the newest first.
use Rattle.std.specs.Prelude.{ℕ, ℤ, pos, Bool, false, List, [], ◌∷◌, ◌++◌, Option, Some, None}
use Rattle.audio_handoff.specs.Cell.{Pair}
use Rattle.lk_talks.specs.Talks.{Passed, comes, hears, leaves, passed_in_saying, shuts}
use Rattle.lk_talks.specs.declared.talks.Said.{Said}
use Rattle.link_shared.specs.declared.capture.Capture.{Capture}
use Rattle.link_asks.specs.Answers.{Facts, answer_to, changed_text_of}
use Rattle.link_asks.specs.Views.{shown_view_of}
use Rattle.link_asks.specs.declared.ask.Ask.{Ask}
use Rattle.link_asks.specs.declared.known.GateTold.{GateTold}
use Rattle.link_asks.specs.declared.reason.Reason.{Reason}
use Rattle.link_control.specs.Log.{Numbered, captured_over, own_after, put_before}
use Rattle.link_clients.specs.Edits.{commit_asked}

-- what is seen of the node besides its state: how its gates stand, and whether its journal takes nothing more
pub record Sight : Type 0 where
  pub gates : List GateTold
  pub full : Bool

-- a line of the client in a seat: what it asks for, or what is wrong with it; the moment that the pace answered, the pair of number and row
-- that was captured then, the number of its commit, which says nothing where it makes none, and how many clients there were
pub record Line : Type 0 where
  pub seat : ℕ
  pub line : List ℕ
  pub asked : Option Ask
  pub reason : Reason
  pub at : ℤ
  pub pair : Pair
  pub number : ℕ
  pub clients : ℕ

-- The node is looked at: at a moment a pair is captured. A client comes to a seat, bytes of it are heard, a line of it is answered, it is
-- told what is shown, it leaves, or it is let go.
pub data Deed : Type 0 where
  looking : (at : ℤ) → (pair : Pair) → (sight : Sight) → Deed
  joining : (seat : ℕ) → Deed
  hearing : (seat : ℕ) → (bytes : List ℕ) → Deed
  answering : (line : Line) → (how : Said) → Deed
  telling : (seat : ℕ) → (how : Said) → Deed
  leaving : (seat : ℕ) → Deed
  dropping : (seat : ℕ) → Deed

-- ---- the pass

-- what a line commits, where the pass had this last commit of its own
unfoldable pub commit_of_line : Option Numbered → Line → Option Numbered
commit_of_line own line = commit_asked line.asked line.number line.at (captured_over own line.pair)

-- the pass's own last commit after a history
unfoldable pub own_in : Option Numbered → List Deed → Option Numbered
own_in own [] = own
own_in own (looking at pair sight ∷ done) = own_in own done
own_in own (joining seat ∷ done) = own_in own done
own_in own (hearing seat bytes ∷ done) = own_in own done
own_in own (answering line how ∷ done) = own_after (own_in own done) (commit_of_line (own_in own done) line)
own_in own (telling seat how ∷ done) = own_in own done
own_in own (leaving seat ∷ done) = own_in own done
own_in own (dropping seat ∷ done) = own_in own done

-- what was captured in a deed, oldest first
unfoldable pub pairs_in : List Deed → List Pair
pairs_in [] = []
pairs_in (looking at pair sight ∷ done) = pairs_in done ++ pair ∷ []
pairs_in (joining seat ∷ done) = pairs_in done
pairs_in (hearing seat bytes ∷ done) = pairs_in done
pairs_in (answering line how ∷ done) = pairs_in done ++ line.pair ∷ []
pairs_in (telling seat how ∷ done) = pairs_in done
pairs_in (leaving seat ∷ done) = pairs_in done
pairs_in (dropping seat ∷ done) = pairs_in done

-- the commits, oldest first, each behind its number
unfoldable pub commits_in : Option Numbered → List Deed → List Numbered
commits_in own [] = []
commits_in own (looking at pair sight ∷ done) = commits_in own done
commits_in own (joining seat ∷ done) = commits_in own done
commits_in own (hearing seat bytes ∷ done) = commits_in own done
commits_in own (answering line how ∷ done) = commits_in own done ++ put_before (commit_of_line (own_in own done) line) []
commits_in own (telling seat how ∷ done) = commits_in own done
commits_in own (leaving seat ∷ done) = commits_in own done
commits_in own (dropping seat ∷ done) = commits_in own done

-- what was captured last, as it was shown then
unfoldable pub newest_in : Option Numbered → List Deed → Option Capture
newest_in own [] = None
newest_in own (looking at pair sight ∷ done) = Some (captured_over (own_in own done) pair)
newest_in own (joining seat ∷ done) = newest_in own done
newest_in own (hearing seat bytes ∷ done) = newest_in own done
newest_in own (answering line how ∷ done) = Some (captured_over (own_in own done) line.pair)
newest_in own (telling seat how ∷ done) = newest_in own done
newest_in own (leaving seat ∷ done) = newest_in own done
newest_in own (dropping seat ∷ done) = newest_in own done

-- the moment that the pace answered last, 0 before any
unfoldable pub last_in : List Deed → ℤ
last_in [] = pos 0
last_in (looking at pair sight ∷ done) = at
last_in (joining seat ∷ done) = last_in done
last_in (hearing seat bytes ∷ done) = last_in done
last_in (answering line how ∷ done) = line.at
last_in (telling seat how ∷ done) = last_in done
last_in (leaving seat ∷ done) = last_in done
last_in (dropping seat ∷ done) = last_in done

-- what was seen last besides, nothing before any look
unfoldable pub sight_in : List Deed → Sight
sight_in [] = record { gates = []; full = false }
sight_in (looking at pair sight ∷ done) = sight
sight_in (joining seat ∷ done) = sight_in done
sight_in (hearing seat bytes ∷ done) = sight_in done
sight_in (answering line how ∷ done) = sight_in done
sight_in (telling seat how ∷ done) = sight_in done
sight_in (leaving seat ∷ done) = sight_in done
sight_in (dropping seat ∷ done) = sight_in done

-- ---- what passes

-- what the answer to a line is made of
unfoldable pub facts_of_line : Bool → Option Numbered → List Deed → Line → Facts
facts_of_line may_end own done line = record {
  published = (captured_over (own_in own done) line.pair).number;
  shown = (captured_over (own_in own done) line.pair).shown;
  at = line.at;
  number = line.number;
  clients = line.clients;
  gates = (sight_in done).gates;
  may_end = may_end;
}

-- Rule: A session server answers each line by one published state, with the node's own last commit over it until that is how.
unfoldable pub answer_of_line : Bool → Option Numbered → List Deed → Line → List ℕ
answer_of_line may_end own done line = answer_to line.asked line.reason (facts_of_line may_end own done line)

-- what whoever watches is told of what was captured last
unfoldable pub told_of : Option Capture → List ℕ
told_of None = []
told_of (Some capture) = changed_text_of (shown_view_of capture.shown) capture.number

-- what passes between clients and the server in a deed after a history
unfoldable pub passed_by : Bool → Option Numbered → List Deed → Deed → List Passed
passed_by may_end own done (looking at pair sight) = []
passed_by may_end own done (joining seat) = comes seat ∷ []
passed_by may_end own done (hearing seat bytes) = hears seat bytes ∷ []
passed_by may_end own done (answering line how) = passed_in_saying line.seat (answer_of_line may_end own done line) how
passed_by may_end own done (telling seat how) = passed_in_saying seat (told_of (newest_in own done)) how
passed_by may_end own done (leaving seat) = leaves seat ∷ []
passed_by may_end own done (dropping seat) = shuts seat ∷ []

-- and in a history, oldest first
unfoldable pub passed_in : Bool → Option Numbered → List Deed → List Passed
passed_in may_end own [] = []
passed_in may_end own (deed ∷ done) = passed_in may_end own done ++ passed_by may_end own done deed
