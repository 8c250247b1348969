-- Lists that are cut in parts, and bytes of one number or id.
use Rattle.std.proofs.Common.{◌≡◌, ℕ, ◌^◌, ◌<◌, List, [], ◌∷◌, ◌++◌, length, refl, sym, ap, ◌∙◌}
use Rattle.byteorder.specs.Endian.{big_bytes, big_from}
use Rattle.byteorder.specs.Numbers.{big_number-reads_back}
use Rattle.lk_base.specs.declared.ids.NodeId.{NodeId}

-- parts of equal length of one list are equal
pub parts_of : {X : Type 0} (a b x y : List X) → length a ≡ length b → a ++ x ≡ b ++ y → (a ≡ b) × (x ≡ y)
parts_of [] [] x y len e = (refl, e)
parts_of [] (b ∷ bs) x y len e = absurd (cc)
parts_of (a ∷ as') [] x y len e = absurd (cc)
parts_of (a ∷ as') (b ∷ bs) x y len e =
    let tails : as' ++ x ≡ bs ++ y = cc in
    let rest = parts_of as' bs x y (cc) tails in
    (cc, rest.1)

-- bytes are those of one number
pub one_natural : (n x y : ℕ) → x < 256 ^ n → y < 256 ^ n → big_bytes n x ≡ big_bytes n y → x ≡ y
one_natural n x y x_fits y_fits e =
    sym (big_number-reads_back n x [] x_fits) ∙ ap (λ (bs : List ℕ). big_from 0 n (bs ++ [])) e ∙ big_number-reads_back n y [] y_fits

abbrev pub id_with : List ℕ → NodeId
id_with bytes = record { 0 = bytes }
