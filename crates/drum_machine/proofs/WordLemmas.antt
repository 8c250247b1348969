-- What the words say that ask for a session, and what of them asks for none.
use Rattle.std.proofs.Common.{◌≡◌, ℕ, zero, suc, ◌+◌, ◌<◌, ◌≤◌, List, [], ◌∷◌, ◌++◌, length, map, take, drop, get_or, All, sym, ap, subst, ◌∙◌, arith}
use Rattle.std.proofs.lemmas.List.{map-append, take_more}
use Rattle.std.proofs.lemmas.List.Elements.{All-head, All-tail}
use Rattle.std.specs.String.{string_bytes}
use Rattle.std.specs.declared.alloc.Global.{Global}
use Rattle.std.specs.declared.string.String.{String}
use Rattle.lk_base.specs.Endpoint.{IsEndpoint}
use Rattle.lk_base.specs.declared.endpoint.Endpoint.{Endpoint}
use Rattle.link_lines.specs.Words.{endpoint_text_of}
use Rattle.drum_machine.specs.Words.{AsksForNone}

-- ---- endpoints

pub no_endpoint : (words : List (String Global)) (k : ℕ) (word : String Global) → k < length words → word ≡ get_or words k word
    → ((e : Endpoint) → IsEndpoint e → string_bytes word ≡ endpoint_text_of e → ⊥)
    → (peers : List Endpoint) → map string_bytes words ≡ map endpoint_text_of peers → All IsEndpoint peers → ⊥
no_endpoint [] k word within is none peers say all = absurd (omega (arith, within))
no_endpoint (w ∷ words) k word within is none [] say all = absurd (omega (arith, ap length say))
no_endpoint (w ∷ words) zero word within is none (p ∷ peers) say all =
    let here : string_bytes w ≡ endpoint_text_of p = cc say in
    none p (All-head IsEndpoint p peers all) (ap string_bytes is ∙ here)
no_endpoint (w ∷ words) (suc k) word within is none (p ∷ peers) say all =
    let later : map string_bytes words ≡ map endpoint_text_of peers = cc say in
    no_endpoint words k word (omega (arith, within)) is none peers later (All-tail IsEndpoint p peers all)

pub one_more_endpoint : (words : List (String Global)) (k : ℕ) (word : String Global) (peers peers_then : List Endpoint) (peer : Endpoint) → k < length words → word ≡ get_or words k word
    → string_bytes word ≡ endpoint_text_of peer → peers_then ≡ peers ++ peer ∷ [] → map string_bytes (take k words) ≡ map endpoint_text_of peers
    → map string_bytes (take (k + 1) words) ≡ map endpoint_text_of peers_then
one_more_endpoint words k word peers peers_then peer within is spelled pushed so_far =
    ap (map string_bytes) (take_more words k word within)
    ∙ map-append string_bytes (take k words) (get_or words k word ∷ [])
    ∙ ap (λ (w : String Global). map string_bytes (take k words) ++ string_bytes w ∷ []) (sym is)
    ∙ ap (λ (l : List (List ℕ)). l ++ string_bytes word ∷ []) so_far
    ∙ ap (λ (text : List ℕ). map endpoint_text_of peers ++ text ∷ []) spelled
    ∙ sym (map-append endpoint_text_of peers (peer ∷ []))
    ∙ ap (map endpoint_text_of) (sym pushed)

-- ---- the words together

pub four_parts : (words : List (String Global)) (first second third : String Global) → 3 ≤ length words
    → first ≡ get_or words 0 first → second ≡ get_or words 1 second → third ≡ get_or words 2 third
    → map string_bytes words ≡ string_bytes first ∷ string_bytes second ∷ string_bytes third ∷ map string_bytes (drop 3 words)
four_parts [] first second third long a b c = absurd (omega (arith, long))
four_parts (x ∷ []) first second third long a b c = absurd (omega (arith, long))
four_parts (x ∷ y ∷ []) first second third long a b c = absurd (omega (arith, long))
four_parts (x ∷ y ∷ z ∷ words) first second third long a b c =
    ap (λ w. string_bytes w ∷ string_bytes y ∷ string_bytes z ∷ map string_bytes words) (sym a)
    ∙ ap (λ w. string_bytes first ∷ string_bytes w ∷ string_bytes z ∷ map string_bytes words) (sym b)
    ∙ ap (λ w. string_bytes first ∷ string_bytes second ∷ string_bytes w ∷ map string_bytes words) (sym c)

-- what these parts ask for none of, the words do
pub none_by_parts : (words rest : List (String Global)) (a b c : List ℕ) (first second third : String Global)
    → map string_bytes words ≡ string_bytes first ∷ string_bytes second ∷ string_bytes third ∷ map string_bytes (drop 3 words)
    → a ≡ string_bytes first → b ≡ string_bytes second → c ≡ string_bytes third → rest ≡ drop 3 words
    → AsksForNone (a ∷ b ∷ c ∷ map string_bytes rest) → AsksForNone (map string_bytes words)
none_by_parts words rest a b c first second third parts is_a is_b is_c is_rest none =
    let same : a ∷ b ∷ c ∷ map string_bytes rest ≡ map string_bytes words =
    ap (λ (l : List ℕ). l ∷ b ∷ c ∷ map string_bytes rest) is_a
    ∙ ap (λ (l : List ℕ). string_bytes first ∷ l ∷ c ∷ map string_bytes rest) is_b
    ∙ ap (λ (l : List ℕ). string_bytes first ∷ string_bytes second ∷ l ∷ map string_bytes rest) is_c
    ∙ ap (λ (l : List (String Global)). string_bytes first ∷ string_bytes second ∷ string_bytes third ∷ map string_bytes l) is_rest
    ∙ sym parts in
    subst AsksForNone same none
