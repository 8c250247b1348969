-- Words that ask for a session: how many blocks, a tempo, the own endpoint and those of peers.
use Rattle.std.specs.Prelude.{◌≡◌, ◌≤◌, ℕ, List, ◌∷◌, length, map, All}
use Rattle.std.specs.Str.Parse.{IsNumeral, digits_value, without_leading_plus}
use Rattle.lk_base.specs.Endpoint.{IsEndpoint}
use Rattle.lk_base.specs.declared.endpoint.Endpoint.{Endpoint}
use Rattle.link_lines.specs.Words.{endpoint_text_of}

-- decimal digits of a number, before which a plus may stand
pub record SaysNumber (bytes : List ℕ) (n : ℕ) : Type 0 where
  pub numeral : IsNumeral 10 (without_leading_plus bytes)
  pub value : n ≡ digits_value 10 (without_leading_plus bytes)

-- Rule: The drum machine takes a number of blocks, a tempo, its own endpoint and up to 32 endpoints of peers; without words it rehearses.
pub record AsksForSession (words : List (List ℕ)) (blocks mpb : ℕ) (local : Endpoint) (peers : List Endpoint) : Type 0 where
  pub first : List ℕ
  pub second : List ℕ
  pub words_are : words ≡ first ∷ second ∷ endpoint_text_of local ∷ map endpoint_text_of peers
  pub blocks_said : SaysNumber first blocks
  pub some : 1 ≤ blocks
  pub few : blocks ≤ 524_288
  pub tempo_said : SaysNumber second mpb
  pub fastest : 60_060 ≤ mpb
  pub slowest : mpb ≤ 3_000_000
  pub endpoint : IsEndpoint local
  pub endpoints : All IsEndpoint peers
  pub room : length peers ≤ 32

-- no session is asked for
abbrev pub AsksForNone : List (List ℕ) → Type 0
AsksForNone words = (blocks mpb : ℕ) (local : Endpoint) (peers : List Endpoint) → AsksForSession words blocks mpb local peers → ⊥
