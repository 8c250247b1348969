-- Only for proofs: the words of an event's line behind its kind and its moment.
use Rattle.std.specs.Prelude.{◌≡◌, ℕ, ℤ, List, [], ◌∷◌, codes}
use Rattle.std.specs.Fmt.{decimal}
use Rattle.link_node.specs.Event.{EventValue, Rx, Tick, App, Audio, End, moment_of}
use Rattle.link_lines.specs.Words.{endpoint_text_of}
use Rattle.link_script.specs.ReplayScript.{commit_words, IsEventKind, IsHexIn}

-- the word of a kind
abbrev pub kind_of : EventValue → List ℕ
kind_of (Rx gate from bytes now) = codes "rx"
kind_of (Tick now) = codes "tick"
kind_of (App commit now) = codes "app"
kind_of (Audio number commit now) = codes "audio"
kind_of (End now) = codes "end"

-- the words behind the moment
abbrev pub details_of : List ℕ → EventValue → List (List ℕ)
details_of hex (Rx gate from bytes now) = decimal gate.0 ∷ endpoint_text_of from ∷ hex ∷ []
details_of hex (Tick now) = []
details_of hex (App commit now) = commit_words commit
details_of hex (Audio number commit now) = decimal number ∷ commit_words commit
details_of hex (End now) = []

-- these words behind a kind and a moment say the event
pub record SaysDetails (gates audio : ℕ) (kind : List ℕ) (now : ℤ) (words : List (List ℕ)) (e : EventValue) : Type 0 where
  pub kind_is : kind ≡ kind_of e
  pub moment_is : moment_of e ≡ now
  pub range : IsEventKind gates audio e
  pub hex : List ℕ
  pub hex_is : IsHexIn hex e
  pub words_are : words ≡ details_of hex e
