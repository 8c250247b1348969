-- How lines are spelled by their words, and the words: truth values, endpoints. (Numbers are std's `decimal` and
-- `signed_decimal`, hex is `decode_of` of the crate `hex`.)
use Rattle.std.specs.Prelude.{ℕ, ◌/◌, ◌%◌, ◌^◌, Bool, true, false, List, [], ◌∷◌, ◌++◌}
use Rattle.std.specs.Fmt.{decimal}
use Rattle.lk_base.specs.declared.endpoint.Endpoint.{Endpoint}

-- words parted by single spaces
abbrev pub joined : List (List ℕ) → List ℕ
joined [] = []
joined (word ∷ []) = word
joined (word ∷ next ∷ words) = word ++ 32 ∷ joined (next ∷ words)

-- 1 for what holds, 0 for what doesn't
unfoldable pub truth_text_of : Bool → List ℕ
truth_text_of true = 49 ∷ []
truth_text_of false = 48 ∷ []

-- four numbers parted by dots, a colon and a port
unfoldable pub dotted : ℕ → ℕ → ℕ → ℕ → ℕ → List ℕ
dotted a b c d port =
    decimal a ++ 46 ∷ (decimal b ++ 46 ∷ (decimal c ++ 46 ∷ (decimal d ++ 58 ∷ decimal port)))

-- Rule: An endpoint is written as four numbers parted by dots, a colon and a port, as in `127.0.0.1:20808`.
-- an address goes by its four bytes, the highest first
unfoldable pub endpoint_text_of : Endpoint → List ℕ
endpoint_text_of e =
    dotted (e.addr / 256 ^ 3) (e.addr / 256 ^ 2 % 256) (e.addr / 256 % 256) (e.addr % 256) e.port
