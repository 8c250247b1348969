-- Words that are endpoints.
use Rattle.std.specs.Prelude.{◌≡◌, ℕ, List}
use Rattle.lk_base.specs.Endpoint.{IsEndpoint}
use Rattle.link_lines.specs.Words.{endpoint_text_of}
use Rattle.link_words.specs.declared.endpoint_words.EndpointWord.{EndpointWord}

-- the text is that of the word's endpoint
abbrev pub Spells : List ℕ → EndpointWord → Type 0
Spells text word = IsEndpoint word.0 × (text ≡ endpoint_text_of word.0)
