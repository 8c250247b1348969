-- The spelling of endpoints, number by number.
use Rattle.std.proofs.Common.{◌≡◌, inl, inr, refl, ◌∙◌, arith, ℕ, ◌+◌, ◌*◌, ◌/◌, ◌%◌, ◌^◌, ◌<◌, ◌≤◌, List, ◌∷◌, ◌++◌}
use Rattle.std.specs.Fmt.{decimal}
use Rattle.lk_base.specs.declared.endpoint.Endpoint.{Endpoint}
use Rattle.lk_base.specs.Endpoint.{IsEndpoint}
use Rattle.link_lines.specs.Words.{dotted, endpoint_text_of}
use Rattle.link_lines.proofs.NumberLemmas.{number_cut}

-- what stands behind the first dot, the second, the third
unfoldable pub from_fourth : Endpoint → List ℕ
from_fourth e = decimal (e.addr % 256) ++ 58 ∷ decimal e.port

unfoldable pub from_third : Endpoint → List ℕ
from_third e = decimal (e.addr / 256 % 256) ++ 46 ∷ from_fourth e

unfoldable pub from_second : Endpoint → List ℕ
from_second e = decimal (e.addr / 256 ^ 2 % 256) ++ 46 ∷ from_third e

pub from_first : (e : Endpoint) → endpoint_text_of e ≡ decimal (e.addr / 256 ^ 3) ++ 46 ∷ from_second e
unfolding endpoint_text_of dotted from_second from_third from_fourth
from_first e = refl

pub after_first : (word rest : List ℕ) (a : ℕ) (e : Endpoint) → IsEndpoint e → a ≤ 255
    → word ≡ decimal a ++ 46 ∷ rest → word ≡ endpoint_text_of e → rest ≡ from_second e
after_first word rest a e range small is same =
    number_cut word rest (from_second e) a (e.addr / 256 ^ 3) 46 (inl (omega arith)) (omega arith) (omega (arith, range.0)) is
    (same ∙ from_first e)

pub after_second : (word rest : List ℕ) (b : ℕ) (e : Endpoint) → b ≤ 255
    → word ≡ decimal b ++ 46 ∷ rest → word ≡ from_second e → rest ≡ from_third e
unfolding from_second
after_second word rest b e small is same =
    number_cut word rest (from_third e) b (e.addr / 256 ^ 2 % 256) 46 (inl (omega arith)) (omega arith) (omega arith) is same

pub after_third : (word rest : List ℕ) (c : ℕ) (e : Endpoint) → c ≤ 255
    → word ≡ decimal c ++ 46 ∷ rest → word ≡ from_third e → rest ≡ from_fourth e
unfolding from_third
after_third word rest c e small is same =
    number_cut word rest (from_fourth e) c (e.addr / 256 % 256) 46 (inl (omega arith)) (omega arith) (omega arith) is same

pub after_fourth : (word rest : List ℕ) (d : ℕ) (e : Endpoint) → d ≤ 255
    → word ≡ decimal d ++ 58 ∷ rest → word ≡ from_fourth e → rest ≡ decimal e.port
unfolding from_fourth
after_fourth word rest d e small is same =
    number_cut word rest (decimal e.port) d (e.addr % 256) 58 (inr (omega arith)) (omega arith) (omega arith) is same

-- the address of four numbers has them for its bytes
pub record IsAddressOf (addr a b c d : ℕ) : Type 0 where
  pub fits : addr < 2 ^ 32
  pub first : addr / 256 ^ 3 ≡ a
  pub second : addr / 256 ^ 2 % 256 ≡ b
  pub third : addr / 256 % 256 ≡ c
  pub fourth : addr % 256 ≡ d

pub address_is : (a b c d : ℕ) → a ≤ 255 → b ≤ 255 → c ≤ 255 → d ≤ 255
    → IsAddressOf (((a * 256 + b) * 256 + c) * 256 + d) a b c d
address_is a b c d low_a low_b low_c low_d = record {
  fits = omega arith;
  first = omega arith;
  second = omega arith;
  third = omega arith;
  fourth = omega arith;
}

pub joined : (word r1 r2 r3 r4 : List ℕ) (e : Endpoint) (a b c d : ℕ) → IsAddressOf e.addr a b c d
    → word ≡ decimal a ++ 46 ∷ r1 → r1 ≡ decimal b ++ 46 ∷ r2 → r2 ≡ decimal c ++ 46 ∷ r3 → r3 ≡ decimal d ++ 58 ∷ r4
    → r4 ≡ decimal e.port → word ≡ endpoint_text_of e
unfolding endpoint_text_of dotted
joined word r1 r2 r3 r4 e a b c d is e1 e2 e3 e4 e5 =
    rw (is.first, is.second, is.third, is.fourth, ← e5, ← e4, ← e3, ← e2) e1
