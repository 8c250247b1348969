-- What the first bytes of a line, which are kept, tell of the whole.
use Rattle.std.proofs.Common.{◌≡◌, sym, ◌∙◌, ap, subst, arith, ℕ, ◌≤◌, List, length, take, Option, Some, None, length-take}
use Rattle.std.proofs.lemmas.List.{take_all}
use Rattle.link_asks.specs.Asks.{AreAsks, Asks, IsAsked}
use Rattle.link_asks.specs.Reasons.{IsReason}
use Rattle.link_asks.specs.declared.ask.Ask.{Ask}
use Rattle.link_asks.specs.declared.reason.Reason.{Reason}
use Rattle.link_asks.specs.declared.reason.Reason.TheVariants as reason

-- a line of which fewer bytes are kept than may be is whole
is_whole : (whole kept : List ℕ) → kept ≡ take 130 whole → length kept ≤ 128 → kept ≡ whole
is_whole whole kept is short =
    let len : length kept ≡ length (take 130 whole) = ap length is in
    let fits : length whole ≤ 130 = omega (arith, short, len, length-take 130 whole) in
    is ∙ take_all 130 whole fits

pub asked_of_kept : AreAsks → (whole kept : List ℕ) (asked : Option Ask) → kept ≡ take 130 whole → IsAsked kept asked → IsAsked whole asked
asked_of_kept laws whole kept None is none = λ asked asks.
    let short = laws.short whole asked asks in
    none asked (subst (λ (l : List ℕ). Asks l asked) (sym (is ∙ take_all 130 whole (omega (arith, short)))) asks)
asked_of_kept laws whole kept (Some asked) is asks =
    subst (λ (l : List ℕ). Asks l asked) (is_whole whole kept is (laws.short kept asked asks)) asks

pub reason_of_kept : (whole kept : List ℕ) (reason : Reason) → kept ≡ take 130 whole → IsReason kept reason → IsReason whole reason
reason_of_kept whole kept reason.TooLong is long =
    let len : length kept ≡ length (take 130 whole) = ap length is in
    omega (arith, long, len, length-take 130 whole)
reason_of_kept whole kept reason.NoCommand is said = subst (λ (l : List ℕ). IsReason l reason.NoCommand) (is_whole whole kept is said.0) said
reason_of_kept whole kept (reason.Takes c) is said = subst (λ (l : List ℕ). IsReason l (reason.Takes c)) (is_whole whole kept is said.0) said
