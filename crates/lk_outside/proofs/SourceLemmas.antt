-- What is copied from the front of a list and what stays behind it, and reads one after the other.
use Rattle.std.proofs.Common.{◌≡◌, ℕ, ◌+◌, ◌≤◌, List, ◌++◌, length, take, drop, Option, Some, None, ap, refl, sym, ◌∙◌, append_assoc, length-append, arith}
use Rattle.std.specs.Option.{option_map}
use Rattle.lk_outside.specs.Transfer.{TakesWithin}
use Rattle.std.proofs.lemmas.List.{length-take, take-append-le, take_all, take-append-drop, drop-drop}
use Rattle.lk_outside.specs.Source.{Takes}

-- the bytes copied to the front of a buffer are those that were taken
pub takes_front : (given count : ℕ) (bytes rest copied tail : List ℕ)
    → rest ≡ drop given bytes → count ≤ length rest → copied ≡ take count rest
    → Takes (Some (drop given bytes)) (take count (copied ++ tail)) (Some (drop (given + count) bytes))
takes_front given count bytes rest copied tail is within copy =
    let long : length copied ≡ count = ap length copy ∙ (length-take count rest ∙ omega arith) in
    let front : take count (copied ++ tail) ≡ copied = take-append-le count copied tail (omega arith) ∙ take_all count copied (omega arith) in
    let behind : drop count rest ≡ drop (given + count) bytes = ap (drop count) is ∙ drop-drop count given bytes in
    let parts : rest ≡ take count rest ++ drop count rest = sym (take-append-drop count rest) in
    ap Some (cc)

two_parts : (after : Option (List ℕ)) (xs ys : List ℕ)
    → option_map (λ rest. xs ++ rest) (option_map (λ rest. ys ++ rest) after)
    ≡ option_map (λ rest. (xs ++ ys) ++ rest) after
two_parts None xs ys = refl
two_parts (Some rest) xs ys = ap Some (sym (append_assoc xs ys rest))

-- bytes were taken, and then at most `most` more
pub takes_more : (before now after : Option (List ℕ)) (bytes buf : List ℕ) (limit count most : ℕ)
    → Takes before bytes now → Takes now (take count buf) after → length bytes ≤ limit → length buf ≤ most
    → TakesWithin (limit + most) before after
takes_more before now after bytes buf limit count most first second few short = (
  bytes ++ take count buf,
  omega (arith, length-append bytes (take count buf), length-take count buf),
  first ∙ (ap (option_map (λ rest. bytes ++ rest)) second ∙ two_parts after bytes (take count buf)),
)
