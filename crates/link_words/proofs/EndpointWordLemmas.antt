-- What is read of a word that may be an endpoint.
use Rattle.std.proofs.Common.{◌≡◌, ℕ, List, Option, Some, None, refl, subst}
use Rattle.std.specs.Net.Grammar.{Parses}
use Rattle.clap.specs.Matches.{ReadsOne}
use Rattle.lk_base.specs.Endpoint.{IsEndpoint}
use Rattle.lk_base.specs.declared.endpoint.Endpoint.{Endpoint}
use Rattle.link_lines.specs.Words.{endpoint_text_of}
use Rattle.link_words.specs.EndpointWords.{Spells}
use Rattle.link_words.specs.declared.endpoint_words.EndpointWord.{EndpointWord}
use Rattle.link_words.specs.declared.endpoint_words.NoEndpoint.{NoEndpoint}

-- how the word of an endpoint is read of a text
abbrev IsReadOf : List ℕ → Option EndpointWord → Type 0
IsReadOf = ReadsOne {T = EndpointWord} {E = NoEndpoint} (Parses Spells)

-- a text of which no endpoint was read is no endpoint's
pub is_no_endpoint : (text : Option (List ℕ)) (read : Option EndpointWord) → ((t : List ℕ) → text ≡ Some t → IsReadOf t read)
    → read ≡ None → (at : Endpoint) → IsEndpoint at → text ≡ Some (endpoint_text_of at) → ⊥
is_no_endpoint text read reads none at range is =
    let refused : IsReadOf (endpoint_text_of at) None = subst (IsReadOf (endpoint_text_of at)) none (reads (endpoint_text_of at) is) in
    refused.1 (record { 0 = at }) (range, refl)
