-- The first line at fault of a text is one line.
use Rattle.std.proofs.Common.{◌≡◌, sym, ◌∙◌, arith, ℕ, ◌<◌, List, [], ◌∷◌, ◌++◌, length}
use Rattle.std.proofs.lemmas.List.{append_assoc}
use Rattle.std.proofs.lemmas.List.Elements.{All-head, All-same}
use Rattle.link_text.specs.LiveHead.{IsFirstHeadFault}
use Rattle.link_script.specs.LiveScript.{IsFirstLiveFault}
use Rattle.link_script.specs.ReplayScript.{IsFirstFault}
use Rattle.link_commands.specs.BadLines.{IsFirstBad}
use Rattle.link_commands.specs.HexLines.{IsHexLine, IsBadLine}
use Rattle.link_commands.specs.PairLines.{IsSomePair, IsNoPair}
use Rattle.link_commands.specs.Statuses.{replay_command, decode_command, filter_command}
use Rattle.daemon_laws.specs.OneStatus.{HasOneFaultLine, HasOneHeadFaultLine, HasOneLiveFaultLine}
use Rattle.link_commands.proofs.HexLineLemmas.{bad_line}
use Rattle.link_commands.proofs.DecodeLemmas.{all_back}

-- of two places in a list, the lines before the later one have the line at the earlier one among them
earlier : (a b as_ bs : List (List ℕ)) (x y : List ℕ) → a ++ x ∷ as_ ≡ b ++ y ∷ bs → length a < length b
    → (rest : List (List ℕ)) × (b ≡ (a ++ x ∷ []) ++ rest)
earlier a [] as_ bs x y e less = absurd (omega arith)
earlier [] (z ∷ b) as_ bs x y e less = (b, cc e)
earlier (w ∷ a) (z ∷ b) as_ bs x y e less =
    let same : a ++ x ∷ as_ ≡ b ++ y ∷ bs = cc e in
    let more = earlier a b as_ bs x y same (omega arith) in
    (more.0, cc (e, more.1))

-- one line of a text that is no script is the first at fault
abbrev pub IsFaultOnce : Type 0
IsFaultOnce = (text : List ℕ) (k j : ℕ) → IsFirstFault text k → IsFirstFault text j → k ≡ j

pub one_script_fault : IsFaultOnce → HasOneFaultLine replay_command
one_script_fault law text line other p q = law text line other p.0 q.0

-- and of a text that is no live script, or no head of one, whatever else is said of that line
pub one_live_fault : ((text : List ℕ) (k j : ℕ) → IsFirstLiveFault text k → IsFirstLiveFault text j → k ≡ j) → HasOneLiveFaultLine
one_live_fault law text line other p q = law text line other p.first q.first

pub one_head_fault : ((text : List ℕ) (k j : ℕ) → IsFirstHeadFault text k → IsFirstHeadFault text j → k ≡ j) → HasOneHeadFaultLine
one_head_fault law text line other p q = law text line other p.first q.first

no_earlier_bad : (IsGood IsBad : List ℕ → Type 0) (clash : (line : List ℕ) → IsGood line → IsBad line → ⊥) (text : List ℕ) (k j : ℕ)
    → IsFirstBad IsGood IsBad text k → IsFirstBad IsGood IsBad text j → k < j → ⊥
no_earlier_bad IsGood IsBad clash text k j p q less =
    let more = earlier p.before q.before p.after q.after p.line q.line (sym p.split ∙ q.split) (omega (arith, p.number, q.number)) in
    let front : q.before ≡ p.before ++ p.line ∷ more.0 = more.1 ∙ append_assoc p.before (p.line ∷ []) more.0 in
    let good = All-same IsGood (p.before ++ p.line ∷ more.0) q.before (sym front) q.good in
    clash p.line (All-head IsGood p.line more.0 (all_back IsGood p.before (p.line ∷ more.0) good)) p.bad

-- where no line is both good and bad, one line is the first bad one
one_first_bad : (IsGood IsBad : List ℕ → Type 0) (clash : (line : List ℕ) → IsGood line → IsBad line → ⊥) (text : List ℕ) (k j : ℕ)
    → IsFirstBad IsGood IsBad text k → IsFirstBad IsGood IsBad text j → k ≡ j
one_first_bad IsGood IsBad clash text k j p q =
    let not_less = no_earlier_bad IsGood IsBad clash text k j p q in
    let not_more = no_earlier_bad IsGood IsBad clash text j k q p in
    omega (arith, not_less, not_more)

pub one_bad_line : HasOneFaultLine decode_command
one_bad_line = one_first_bad IsHexLine IsBadLine (λ line good bad. bad_line line good.0 bad good.1)

pub one_no_pair : HasOneFaultLine filter_command
one_no_pair = one_first_bad IsSomePair IsNoPair (λ line good bad. bad good)
