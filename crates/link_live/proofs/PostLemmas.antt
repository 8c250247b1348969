-- One datagram after another is posted.
use Rattle.std.proofs.lemmas.List.{map-append, take_more, take-append-drop}
use Rattle.std.proofs.Common.{◌≡◌, ℕ, zero, suc, ◌<◌, ◌+◌, get_or, true≢false, Bool, true, false, List, [], ◌∷◌, ◌++◌, length, map, take, drop, Option, sym, ap, subst, ◌∙◌, arith}
use Rattle.std.specs.List.{AllByRecursion}
use Rattle.lk_outside.specs.Contents.{BothTell}
use Rattle.lk_outside.specs.Port.{PortContents}
use Rattle.link_node.specs.Event.{SendingValue, sending_value}
use Rattle.link_node.specs.declared.sends.Sending.{Sending}
use Rattle.link_live.specs.Network.{HasGrown, post_of, posts_of}
use Rattle.link_live.specs.Running.{HasPosted}

-- these many were posted
pub record IsPosted (sends : List Sending) (index : ℕ) (told told_then : Option PortContents) : Type 0 where
  pub grown : BothTell (HasGrown [] (posts_of (map sending_value (take index sends)))) told told_then

one_more : (sends : List Sending) (n : ℕ) (x : Sending) → n < length sends → x ≡ get_or sends n x
    → posts_of (map sending_value (take (n + 1) sends)) ≡ posts_of (map sending_value (take n sends)) ++ post_of (sending_value x) ∷ []
one_more sends n x less is =
    ap (λ l. posts_of (map sending_value l)) (take_more sends n x less)
    ∙ ap posts_of (map-append sending_value (take n sends) (get_or sends n x ∷ []))
    ∙ map-append post_of (map sending_value (take n sends)) (sending_value (get_or sends n x) ∷ [])
    ∙ ap (λ (y : Sending). posts_of (map sending_value (take n sends)) ++ post_of (sending_value y) ∷ []) (sym is)

-- the gate of each is there
pub gate_at : (gates : ℕ) (sends : List Sending) (n : ℕ) (x : Sending) → n < length sends → x ≡ get_or sends n x
    → AllByRecursion (λ (s : SendingValue). s.gate.0 < gates) (map sending_value sends) → x.gate.0 < gates
gate_at gates [] n x less is all = absurd (omega (arith, less))
gate_at gates (s ∷ sends) zero x less is all = subst (λ (y : Sending). y.gate.0 < gates) (sym is) all.0
gate_at gates (s ∷ sends) (suc n) x less is all = gate_at gates sends n x (omega (arith, less)) is all.1

pub some_posted : (sends : List Sending) (n : ℕ) (failed : Bool) (told now told_then : Option PortContents) → failed ≡ false → IsPosted sends n told now → told_then ≡ now
    → HasPosted (map sending_value sends) failed true told told_then
some_posted sends n failed told now told_then works so_far stays = record {
  posts = posts_of (map sending_value (take n sends));
  unsent = posts_of (map sending_value (drop n sends));
  split = ap (λ l. posts_of (map sending_value l)) (sym (take-append-drop n sends))
      ∙ ap posts_of (map-append sending_value (take n sends) (drop n sends)) ∙ map-append post_of (map sending_value (take n sends)) (map sending_value (drop n sends));
  all = λ e. absurd (true≢false e);
  none = λ e. absurd (true≢false (sym e ∙ works));
  grown = subst (λ (o : Option PortContents). BothTell (HasGrown [] (posts_of (map sending_value (take n sends)))) told o) (sym stays) so_far.grown;
}
