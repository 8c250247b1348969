-- Only for proofs: how far a text is read.
use Rattle.std.specs.Prelude.{◌≡◌, ◌≤◌, ◌<◌, ◌+◌, ℕ, false, List, [], ◌∷◌, ◌++◌, length, drop}
use Rattle.std.specs.List.{AllByRecursion}
use Rattle.link_node.specs.Event.{EventValue, audio_after}
use Rattle.link_lines.specs.Lines.{lines_of, is_passed, counting_in}
use Rattle.link_script.specs.ReplayScript.{AreEventLines, IsEventLine, IsWithoutQuantum}
use Rattle.link_text.specs.declared.place.Place.{Place}

-- the lines that count from a place on
abbrev pub counting_from : List ℕ → ℕ → List (List ℕ)
counting_from text at = counting_in (lines_of (drop at text))

-- no line stands there, or one that counts
abbrev pub StopsAt : List ℕ → ℕ → Type 0
StopsAt text at = (line : List ℕ) (rest : List (List ℕ)) → lines_of (drop at text) ≡ line ∷ rest → is_passed line ≡ false

-- only lines that are passed over stand between two places
pub record HasWalked (text : List ℕ) (start place : Place) : Type 0 where
  pub passed : List (List ℕ)
  pub lines : lines_of (drop start.at text) ≡ passed ++ lines_of (drop place.at text)
  pub none : counting_in passed ≡ []
  pub numbered : place.number ≡ start.number + length passed
  pub small : place.number ≤ place.at + 1
  pub further : start.at ≤ place.at
  pub within : place.at ≤ length text

pub record HasPassed (text : List ℕ) (start place : Place) : Type 0 where
  pub walked : HasWalked text start place
  pub stops : StopsAt text place.at

-- a line that counts begins at the place, or the text ends there
pub record IsAhead (text : List ℕ) (place : Place) : Type 0 where
  pub before : List (List ℕ)
  pub lines : lines_of text ≡ before ++ lines_of (drop place.at text)
  pub numbered : place.number ≡ length before + 1
  pub small : place.number ≤ place.at + 1
  pub within : place.at ≤ length text
  pub stops : StopsAt text place.at

-- the line at a place, and the next place
pub record HasLine (text : List ℕ) (place : Place) (line : List ℕ) (next : Place) : Type 0 where
  pub after : List (List ℕ)
  pub lines : lines_of (drop place.at text) ≡ line ∷ after
  pub counts : is_passed line ≡ false
  pub counting : counting_from text place.at ≡ line ∷ counting_from text next.at
  pub further : place.at < next.at

-- the number of the last audio commit of some events
abbrev pub audio_of : ℕ → List EventValue → ℕ
audio_of audio [] = audio
audio_of audio (e ∷ es) = audio_of (audio_after audio e) es

-- a script of a version can have this event, and these
abbrev pub IsOfVersion : ℕ → EventValue → Type 0
IsOfVersion version e = version ≡ 1 → IsWithoutQuantum e

abbrev pub AreOfVersion : ℕ → List EventValue → Type 0
AreOfVersion version es = version ≡ 1 → AllByRecursion IsWithoutQuantum es

-- the lines are those of events of a version, and then others
pub record HasEvents (version gates : ℕ) (lines : List (List ℕ)) (audio : ℕ) (rest : List (List ℕ)) : Type 0 where
  pub es : List EventValue
  pub events_lines : List (List ℕ)
  pub said : lines ≡ events_lines ++ rest
  pub events : AreEventLines gates 0 events_lines es
  pub plain : AreOfVersion version es
  pub last : audio ≡ audio_of 0 es

-- behind events of a version there is a line that says none
pub record HasBadEvent (version gates : ℕ) (text : List ℕ) (lines : List (List ℕ)) (place : Place) : Type 0 where
  pub ahead : IsAhead text place
  pub audio : ℕ
  pub has : HasEvents version gates lines audio (counting_from text place.at)
  pub line : List ℕ
  pub next : Place
  pub there : HasLine text place line next
  pub fault : (e : EventValue) → IsEventLine gates audio line e → IsOfVersion version e → ⊥
