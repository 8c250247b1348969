-- Eight bytes that are compared as one number.
use Rattle.std.proofs.Common.{◌≡◌, ◌<◌, ◌+◌, ◌^◌, ℕ, Bool, true, false, ◌==◌, List, [], ◌∷◌, ◌++◌, length, refl, sym, ap, ◌∙◌, arith}
use Rattle.std.proofs.lemmas.Bool.{eqb-true, eq-eqb}
use Rattle.std.specs.Cmp.Lexicographic.{bytes_decides}
use Rattle.byteorder.specs.Endian.{big_bytes, big_number}
use Rattle.byteorder.specs.Numbers.{big_number-reads_back}
use Rattle.lk_base.specs.IdOrder.{same_id}
use Rattle.lk_base.specs.declared.ids.NodeId.{NodeId}

both : (a b : Bool) → (a ≡ true → b ≡ true) → (b ≡ true → a ≡ true) → a ≡ b
both true b there back = sym (there refl)
both false true there back = back refl
both false false there back = refl

no_rest : (rest : List ℕ) (n : ℕ) → length rest + 8 ≡ 8 → rest ≡ []
no_rest [] n e = refl
no_rest (x ∷ rest) n e = absurd (omega (arith, e))

pub same_number : (a b : NodeId) (n m : ℕ) (more rest : List ℕ) → n < 256 ^ 8 → m < 256 ^ 8
    → length more + 8 ≡ 8 → length rest + 8 ≡ 8 → a.0 ≡ big_bytes 8 n ++ more → b.0 ≡ big_bytes 8 m ++ rest → (n == m) ≡ same_id a b
same_number a b n m more rest n_fits m_fits more_len rest_len a_is b_is =
    let ends : more ≡ rest = no_rest more n more_len ∙ sym (no_rest rest n rest_len) in
    both (n == m) (same_id a b)
    (λ e. (bytes_decides a.0 b.0).1
    (a_is ∙ ap (λ (k : ℕ). big_bytes 8 k ++ more) (eqb-true n m e) ∙ ap (λ (l : List ℕ). big_bytes 8 m ++ l) ends ∙ sym b_is))
    (λ e. eq-eqb n m
    (sym (big_number-reads_back 8 n more n_fits)
    ∙ ap (λ (l : List ℕ). big_number 8 l) (sym a_is ∙ (bytes_decides a.0 b.0).0 e ∙ b_is)
    ∙ big_number-reads_back 8 m rest m_fits))
