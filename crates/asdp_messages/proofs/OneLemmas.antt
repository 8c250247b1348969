-- A datagram is read in one way.
use Rattle.std.proofs.Common.{◌≡◌, ℕ, Bool, true, false, eqb, ltb, not, ◌||◌, List, length, drop, Option, Some, None, Result, Ok, Err, sym, ap, ap₂, ◌∙◌}
use Rattle.std.specs.Bool.{MatchBool}
use Rattle.std.specs.Result.{result_map_both}
use Rattle.link_payload.specs.declared.fault.PayloadFault.{PayloadFault}
use Rattle.link_payload.specs.Entries.{EntryValue, Spells, IsCutAt, AreEntriesIn}
use Rattle.link_payload.specs.Fields.{state_answer_of, pong_answer_of}
use Rattle.asdp_messages.specs.declared.fault.WireFault.TheVariants.{Short, NotLink, TooLong, Payload}
use Rattle.asdp_messages.specs.Datagram.{MessageValue, Alive, Response, Bye, Ping, Pong, OtherDiscovery, OtherLink, is_discovery, is_link, kind_in, ttl_in, group_in, sender_in, state_message_in, IsMessage, IsDiscoveryReadAs, IsLinkReadAs, IsReadAs}
use Rattle.asdp_messages.proofs.DatagramLemmas.{Answer}

-- what the payload's laws say
pub record OneWalk : Type 0 where
  pub spelled : (bytes : List ℕ) (es fs : List EntryValue) → Spells bytes es → Spells bytes fs → es ≡ fs
  pub not_both : (bytes : List ℕ) (n : ℕ) (es fs : List EntryValue) → Spells bytes es → IsCutAt bytes n fs → ⊥
  pub cut : (bytes : List ℕ) (m n : ℕ) (es fs : List EntryValue) → IsCutAt bytes m es → IsCutAt bytes n fs → (m ≡ n) × (es ≡ fs)

one_by : OneWalk → {X : Type 0} (f : List EntryValue → Option ℕ → X) (payload : List ℕ) (es fs : List EntryValue) (a b : Option ℕ)
    → AreEntriesIn payload es a → AreEntriesIn payload fs b → f es a ≡ f fs b
one_by laws f payload es fs None None p q = ap (λ (xs : List EntryValue). f xs None) (laws.spelled payload es fs p q)
one_by laws f payload es fs None (Some n) p q = absurd (laws.not_both payload n es fs p q)
one_by laws f payload es fs (Some m) None p q = absurd (laws.not_both payload m fs es q p)
one_by laws f payload es fs (Some m) (Some n) p q =
    let same = laws.cut payload m n es fs p q in
    ap₂ (λ (xs : List EntryValue) (k : ℕ). f xs (Some k)) same.1 same.0

abbrev pub IsOne : (Answer → Type 0) → Type 0
IsOne P = (a b : Answer) → P a → P b → a ≡ b

one_message : OneWalk → {A : Type 0} (f : List EntryValue → Option ℕ → Result A PayloadFault) (message_of : A → MessageValue) (payload : List ℕ) → IsOne (IsMessage f message_of payload)
one_message laws {A} f message_of payload a b p q =
    let same = p.1.3 ∙ one_by laws f payload p.1.0 q.1.0 p.1.1 q.1.1 p.1.2 q.1.2 ∙ sym q.1.3 in
    p.2 ∙ ap (λ (r : Result A PayloadFault). result_map_both message_of (λ fault. Payload fault) r) same ∙ sym q.2

one_value : (x : Answer) → IsOne (λ a. a ≡ x)
one_value x a b p q = p ∙ sym q

one_of_two : (test : Bool) (P Q : Answer → Type 0) → IsOne P → IsOne Q → IsOne (λ a. MatchBool test (P a) (Q a))
one_of_two true P Q p q = p
one_of_two false P Q p q = q

one_discovery : OneWalk → (bytes : List ℕ) → IsOne (IsDiscoveryReadAs bytes)
unfolding IsDiscoveryReadAs
one_discovery laws bytes =
    one_of_two (eqb (kind_in bytes) 1) _ _ (one_message laws state_answer_of (λ fields. Alive (state_message_in bytes fields)) (drop 20 bytes))
    (one_of_two (eqb (kind_in bytes) 2) _ _ (one_message laws state_answer_of (λ fields. Response (state_message_in bytes fields)) (drop 20 bytes))
    (one_of_two (eqb (kind_in bytes) 3) _ _ (one_value (Ok (Bye (sender_in bytes) (ttl_in bytes) (group_in bytes)))) (one_value (Ok (OtherDiscovery (kind_in bytes))))))

one_link : OneWalk → (bytes : List ℕ) → IsOne (IsLinkReadAs bytes)
unfolding IsLinkReadAs
one_link laws bytes =
    one_of_two (eqb (kind_in bytes) 1) _ _ (one_value (Ok (Ping (drop 9 bytes))))
    (one_of_two (eqb (kind_in bytes) 2) _ _ (one_message laws pong_answer_of (λ fields. Pong fields) (drop 9 bytes)) (one_value (Ok (OtherLink (kind_in bytes)))))

pub one_read : OneWalk → (bytes : List ℕ) → IsOne (IsReadAs bytes)
unfolding IsReadAs
one_read laws bytes =
    one_of_two (ltb (length bytes) 9) _ _ (one_value (Err (Short (length bytes))))
    (one_of_two (not (is_discovery bytes || is_link bytes)) _ _ (one_value (Err NotLink))
    (one_of_two (ltb 512 (length bytes)) _ _ (one_value (Err (TooLong (length bytes))))
    (one_of_two (is_link bytes) _ _ (one_link laws bytes)
    (one_of_two (ltb (length bytes) 20) _ _ (one_value (Err (Short (length bytes)))) (one_discovery laws bytes)))))
