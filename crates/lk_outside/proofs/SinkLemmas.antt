-- Writes one after the other, of a list's first bytes.
use Rattle.std.proofs.Common.{◌≡◌, ℕ, ◌+◌, ◌-◌, List, ◌++◌, length, take, drop, Option, Some, None, ap, ◌∙◌, refl, append_assoc}
use Rattle.std.proofs.lemmas.List.{take_rest}
use Rattle.std.proofs.Math.Seq.{take-add}
use Rattle.std.specs.Option.{option_map}
use Rattle.lk_outside.specs.Sink.{Appends}

two_parts : (before : Option (List ℕ)) (xs ys : List ℕ)
    → option_map (λ old. old ++ ys) (option_map (λ old. old ++ xs) before)
    ≡ option_map (λ old. old ++ (xs ++ ys)) before
two_parts None xs ys = refl
two_parts (Some old) xs ys = ap Some (append_assoc old xs ys)

-- bytes were appended, and then more
appends_more : (before mid after : Option (List ℕ)) (xs ys : List ℕ)
    → Appends before xs mid → Appends mid ys after → Appends before (xs ++ ys) after
appends_more before mid after xs ys first second =
    second ∙ (ap (option_map (λ old. old ++ ys)) first ∙ two_parts before xs ys)

-- the first bytes were appended, and then some of the rest
pub appends_next : (before mid after : Option (List ℕ)) (done count : ℕ) (bytes : List ℕ)
    → Appends before (take done bytes) mid
    → Appends mid (take count (take (length bytes - done) (drop done bytes))) after
    → Appends before (take (done + count) bytes) after
appends_next before mid after done count bytes first second =
    let all_left : take (length bytes - done) (drop done bytes) ≡ drop done bytes = take_rest bytes done in
    rw (take-add done count bytes, ← all_left) (appends_more before mid after _ _ first second)
