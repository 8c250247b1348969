-- The entry at the front of bytes, as it is spelled and as it is read.
use Rattle.std.proofs.Common.{◌≡◌, ℕ, ◌^◌, ◌<◌, ◌≤◌, ◌+◌, Bool, true, false, cond, ltb, List, [], ◌++◌, length, take, drop, Option, Some, None, refl, sym, ap, ap₂, subst, ◌∙◌, take-append-drop, length-append, length-drop, arith}
use Rattle.std.proofs.lemmas.Bool.{ltb-false, le-ltb}
use Rattle.std.proofs.lemmas.List.{length-take-le, take_at, drop_at, get_or-drop}
use Rattle.std.proofs.lemmas.Nat.{be_bytes_4}
use Rattle.byteorder.specs.Endian.{big_bytes, big_number}
use Rattle.byteorder.specs.Numbers.{big_number-reads_back, big_from-lt}
use Rattle.link_payload.specs.Entries.{EntryValue, IsEntry, spelled_entry_of, AreBytes}
use Rattle.link_payload.specs.Items.{value_at_front, entry_at_front}
use Rattle.link_payload.proofs.NumberLemmas.{AreBytes-take}
use Rattle.link_payload.proofs.ReadingLemmas.{entry_parted, length-entry_rest}

abbrev pub Front : Type 0
Front = EntryValue × List ℕ

pub AreBytes-drop : (n : ℕ) (bs : List ℕ) → AreBytes bs → AreBytes (drop n bs)
AreBytes-drop n bs bytes i = rw get_or-drop (bytes (n + i))

abbrev value_with : ℕ → List ℕ → EntryValue
value_with key value = record { key = key; value = value }

-- a value that is followed by a rest
value_read : (key : ℕ) (value rest : List ℕ) → value_at_front key (length value) (value ++ rest) ≡ Some (value_with key value, rest)
value_read key value rest =
    let room : ltb (length (value ++ rest)) (length value) ≡ false = le-ltb _ _ (omega (arith, length-append value rest)) in
    rw (room, take_at value rest (length value) refl, drop_at value rest (length value) refl) refl

-- the front by its key, its size and what follows
front_by : (bytes : List ℕ) (key size : ℕ) (rest : List ℕ) → ltb (length bytes) 8 ≡ false
    → big_number 4 (take 4 bytes) ≡ key → big_number 4 (take 4 (drop 4 bytes)) ≡ size → drop 4 (drop 4 bytes) ≡ rest
    → entry_at_front bytes ≡ value_at_front key size rest
unfolding entry_at_front
front_by bytes key size rest long key_is size_is rest_is = rw (long, key_is, size_is, rest_is) refl

-- what is spelled is read
pub entry_read : (e : EntryValue) (rest : List ℕ) → IsEntry e → entry_at_front (spelled_entry_of e.key e.value ++ rest) ≡ Some (e, rest)
entry_read e rest fits =
    let parted = big_bytes 4 e.key ++ (big_bytes 4 (length e.value) ++ (e.value ++ rest)) in
    let long : ltb (length parted) 8 ≡ false = le-ltb _ _ (omega (arith, ap length (entry_parted e.key e.value rest), length-entry_rest e.key e.value rest)) in
    ap entry_at_front (entry_parted e.key e.value rest)
    ∙ front_by parted e.key (length e.value) (e.value ++ rest) long (big_number-reads_back 4 e.key [] fits.0) (big_number-reads_back 4 (length e.value) [] fits.1) refl
    ∙ value_read e.key e.value rest

guard : {A : Type 0} (b : Bool) (o : Option A) (x : A) → cond b None o ≡ Some x → (b ≡ false) × (o ≡ Some x)
guard true o x e = absurd cc
guard false o x e = (refl, e)

abbrev some_front : Front → Option Front
some_front x = Some x

-- what was read of the front
pub record IsFront (bytes : List ℕ) (found : Front) : Type 0 where
  pub long : 8 ≤ length bytes
  pub room : big_number 4 (take 4 (drop 4 bytes)) ≤ length (drop 4 (drop 4 bytes))
  pub is : (value_with (big_number 4 (take 4 bytes)) (take (big_number 4 (take 4 (drop 4 bytes))) (drop 4 (drop 4 bytes))), drop (big_number 4 (take 4 (drop 4 bytes))) (drop 4 (drop 4 bytes))) ≡ found

front_of : (bytes : List ℕ) (found : Front) → entry_at_front bytes ≡ Some found → IsFront bytes found
unfolding entry_at_front
front_of bytes found e =
    let size = big_number 4 (take 4 (drop 4 bytes)) in
    let rest = drop 4 (drop 4 bytes) in
    let outer = guard (ltb (length bytes) 8) (value_at_front (big_number 4 (take 4 bytes)) size rest) found e in
    let made : Front = (value_with (big_number 4 (take 4 bytes)) (take size rest), drop size rest) in
    let inner = guard (ltb (length rest) size) (Some made) found outer.1 in
    let same : some_front made ≡ some_front found = inner.1 in
    record { long = ltb-false _ _ outer.0; room = ltb-false _ _ inner.0; is = cc }

-- what is read takes at least eight bytes
pub front-length : (bytes : List ℕ) (found : Front) → entry_at_front bytes ≡ Some found → 8 + length found.0.value + length found.1 ≡ length bytes
front-length bytes found e =
    let f = front_of bytes found e in
    let value_is = ap (λ (p : Front). length p.0.value) f.is in
    let rest_is = ap (λ (p : Front). length p.1) f.is in
    let size = big_number 4 (take 4 (drop 4 bytes)) in
    let rest = drop 4 (drop 4 bytes) in
    omega (arith, f.long, f.room, value_is, rest_is, length-take-le size rest f.room, length-drop size rest, length-drop 4 (drop 4 bytes), length-drop 4 bytes)

four_bytes : (bs : List ℕ) → 4 ≤ length bs → AreBytes bs → big_bytes 4 (big_number 4 (take 4 bs)) ≡ take 4 bs
four_bytes bs len bytes = be_bytes_4 (take 4 bs) (big_number 4 (take 4 bs)) (length-take-le 4 bs len) (AreBytes-take 4 bs bytes) (omega arith)

four-lt : (bs : List ℕ) → AreBytes bs → big_number 4 (take 4 bs) < 2 ^ 32
four-lt bs bytes = let fits = big_from-lt 0 4 (take 4 bs) (AreBytes-take 4 bs bytes) in omega (arith, fits)

-- what is read is spelled so
pub front_read : (bytes : List ℕ) (found : Front) → AreBytes bytes → entry_at_front bytes ≡ Some found → IsEntry found.0 × (bytes ≡ spelled_entry_of found.0.key found.0.value ++ found.1)
front_read bytes found are_bytes e =
    let f = front_of bytes found e in
    let size = big_number 4 (take 4 (drop 4 bytes)) in
    let rest = drop 4 (drop 4 bytes) in
    let key = big_number 4 (take 4 bytes) in
    let value = take size rest in
    let value_len = length-take-le size rest f.room in
    let after = AreBytes-drop 4 bytes are_bytes in
    let key_spelled = four_bytes bytes (omega (arith, f.long)) are_bytes in
    let size_spelled = four_bytes (drop 4 bytes) (omega (arith, f.long, length-drop 4 bytes)) after in
    let size_is : big_bytes 4 (length value) ≡ take 4 (drop 4 bytes) = ap (big_bytes 4) value_len ∙ size_spelled in
    let whole : bytes ≡ big_bytes 4 key ++ (big_bytes 4 (length value) ++ (value ++ drop size rest)) =
    sym (take-append-drop 4 bytes) ∙ ap₂ (λ (a b : List ℕ). a ++ b) (sym key_spelled)
    (sym (take-append-drop 4 (drop 4 bytes)) ∙ ap₂ (λ (a b : List ℕ). a ++ b) (sym size_is) (sym (take-append-drop size rest))) in
    let spelled = whole ∙ sym (entry_parted key value (drop size rest)) in
    let P : Front → Type 0 = λ p. IsEntry p.0 × (bytes ≡ spelled_entry_of p.0.key p.0.value ++ p.1) in
    subst P f.is ((four-lt bytes are_bytes, omega (arith, value_len, four-lt (drop 4 bytes) after)), spelled)
