-- The lines of a live script, word by word.
use Rattle.std.proofs.Common.{◌≡◌, ◌≢◌, refl, sym, ◌∙◌, ap, arith, ℤ, ℕ, Bool, List, [], ◌∷◌, codes, get_or, Option, Some, None, IfSome, IfNone}
use Rattle.std.specs.Fmt.{decimal, signed_decimal}
use Rattle.std.proofs.lemmas.Fmt.{decimal_injective}
use Rattle.link_lines.specs.LineWords.{words_of}
use Rattle.link_lines.specs.Words.{joined, truth_text_of}
use Rattle.link_script.specs.LiveScript.{Command, app, block, IsTempo, IsAct, IsCommand, act_words, command_words, command_line, setup_line}
use Rattle.link_script.specs.declared.live_script.Act.{Act}
use Rattle.link_script.specs.declared.live_script.Act.TheVariants.{Tempo, Force, Request, Quantum, Play, Stop, Look}
use Rattle.link_script.specs.declared.live_script.AppCommand.{AppCommand}
use Rattle.link_script.specs.declared.live_script.BlockCommand.{BlockCommand}
use Rattle.link_text.proofs.EventLemmas.{AllLack, lacks_by_test, number_lacks, signed_lacks, truth_lacks, moment_within, quantum_within, tempo_within, words_joined, joined_words}
use Rattle.link_text.proofs.HeadLemmas.{truth_one, first_differs}
use Rattle.link_text.proofs.EventUniqueLemmas.{signed_one}

-- ---- a setup

setup_words : (mpb : ℤ) (sync : Bool) → IsTempo mpb
    → words_of (setup_line mpb sync) ≡ codes "setup" ∷ signed_decimal mpb ∷ truth_text_of sync ∷ []
setup_words mpb sync is =
    words_joined (codes "setup") (signed_decimal mpb ∷ truth_text_of sync ∷ [])
    (lacks_by_test (codes "setup") refl, (signed_lacks mpb (tempo_within mpb is.fastest is.slowest), (truth_lacks sync, tt)))

pub some_setup : (line : List ℕ) (r : Option (ℤ × Bool))
    → IfSome r (λ setup. IsTempo setup.0 × (words_of line ≡ codes "setup" ∷ signed_decimal setup.0 ∷ truth_text_of setup.1 ∷ []))
    → IfSome r (λ setup. IsTempo setup.0 × (line ≡ setup_line setup.0 setup.1))
some_setup line (Some setup) h = (h.0, sym (joined_words line) ∙ ap joined h.1)
some_setup line None h = tt

pub none_setup : (line : List ℕ) (r : Option (ℤ × Bool))
    → IfNone r ((mpb : ℤ) (sync : Bool) → IsTempo mpb → words_of line ≡ codes "setup" ∷ signed_decimal mpb ∷ truth_text_of sync ∷ [] → ⊥)
    → IfNone r ((mpb : ℤ) (sync : Bool) → IsTempo mpb → line ≡ setup_line mpb sync → ⊥)
none_setup line (Some setup) h = tt
none_setup line None h = λ mpb sync is same. h mpb sync is (ap words_of same ∙ setup_words mpb sync is)

pub setup_one : (m n : ℤ) (s t : Bool) → IsTempo m → IsTempo n → setup_line m s ≡ setup_line n t → (m ≡ n) × (s ≡ t)
setup_one m n s t is_m is_n same =
    let words = sym (setup_words m s is_m) ∙ ap words_of same ∙ setup_words n t is_n in
    let mpbs : signed_decimal m ≡ signed_decimal n = cc words in
    let syncs : truth_text_of s ≡ truth_text_of t = cc words in
    (signed_one m n (tempo_within m is_m.fastest is_m.slowest) (tempo_within n is_n.fastest is_n.slowest) mpbs, truth_one s t syncs)

-- ---- what is done

act_lacks : (act : Act) → IsAct act → AllLack (act_words act)
act_lacks (Tempo mpb) is = (lacks_by_test (codes "tempo") refl, (signed_lacks mpb (tempo_within mpb is.fastest is.slowest), tt))
act_lacks (Force beat) is = (lacks_by_test (codes "force") refl, (signed_lacks beat is, tt))
act_lacks (Request beat) is = (lacks_by_test (codes "request") refl, (signed_lacks beat is, tt))
act_lacks (Quantum quantum) is = (lacks_by_test (codes "quantum") refl, (signed_lacks quantum (quantum_within quantum is), tt))
act_lacks Play is = (lacks_by_test (codes "play") refl, tt)
act_lacks Stop is = (lacks_by_test (codes "stop") refl, tt)
act_lacks Look is = (lacks_by_test (codes "look") refl, tt)

-- words that differ in their first bytes
words_differ : (v w : List ℕ) (vs ws : List (List ℕ)) (b d : ℕ) → get_or v 0 0 ≡ b → get_or w 0 0 ≡ d → b ≢ d → v ∷ vs ≡ w ∷ ws → ⊥
words_differ v w vs ws b d is_b is_d differ same = first_differs v w b d is_b is_d differ (cc same)

act_one : (a b : Act) → IsAct a → IsAct b → act_words a ≡ act_words b → a ≡ b
act_one (Tempo mpb) (Tempo mpb') is_a is_b same = ap (λ (z : ℤ). Tempo z) (signed_one mpb mpb' (tempo_within mpb is_a.fastest is_a.slowest) (tempo_within mpb' is_b.fastest is_b.slowest) (cc same))
act_one (Tempo mpb) (Force beat') is_a is_b same = absurd (words_differ (codes "tempo") (codes "force") _ _ 116 102 refl refl (omega arith) same)
act_one (Tempo mpb) (Request beat') is_a is_b same = absurd (words_differ (codes "tempo") (codes "request") _ _ 116 114 refl refl (omega arith) same)
act_one (Tempo mpb) (Quantum quantum') is_a is_b same = absurd (words_differ (codes "tempo") (codes "quantum") _ _ 116 113 refl refl (omega arith) same)
act_one (Tempo mpb) Play is_a is_b same = absurd (words_differ (codes "tempo") (codes "play") _ _ 116 112 refl refl (omega arith) same)
act_one (Tempo mpb) Stop is_a is_b same = absurd (words_differ (codes "tempo") (codes "stop") _ _ 116 115 refl refl (omega arith) same)
act_one (Tempo mpb) Look is_a is_b same = absurd (words_differ (codes "tempo") (codes "look") _ _ 116 108 refl refl (omega arith) same)
act_one (Force beat) (Tempo mpb') is_a is_b same = absurd (words_differ (codes "force") (codes "tempo") _ _ 102 116 refl refl (omega arith) same)
act_one (Force beat) (Force beat') is_a is_b same = ap (λ (z : ℤ). Force z) (signed_one beat beat' is_a is_b (cc same))
act_one (Force beat) (Request beat') is_a is_b same = absurd (words_differ (codes "force") (codes "request") _ _ 102 114 refl refl (omega arith) same)
act_one (Force beat) (Quantum quantum') is_a is_b same = absurd (words_differ (codes "force") (codes "quantum") _ _ 102 113 refl refl (omega arith) same)
act_one (Force beat) Play is_a is_b same = absurd (words_differ (codes "force") (codes "play") _ _ 102 112 refl refl (omega arith) same)
act_one (Force beat) Stop is_a is_b same = absurd (words_differ (codes "force") (codes "stop") _ _ 102 115 refl refl (omega arith) same)
act_one (Force beat) Look is_a is_b same = absurd (words_differ (codes "force") (codes "look") _ _ 102 108 refl refl (omega arith) same)
act_one (Request beat) (Tempo mpb') is_a is_b same = absurd (words_differ (codes "request") (codes "tempo") _ _ 114 116 refl refl (omega arith) same)
act_one (Request beat) (Force beat') is_a is_b same = absurd (words_differ (codes "request") (codes "force") _ _ 114 102 refl refl (omega arith) same)
act_one (Request beat) (Request beat') is_a is_b same = ap (λ (z : ℤ). Request z) (signed_one beat beat' is_a is_b (cc same))
act_one (Request beat) (Quantum quantum') is_a is_b same = absurd (words_differ (codes "request") (codes "quantum") _ _ 114 113 refl refl (omega arith) same)
act_one (Request beat) Play is_a is_b same = absurd (words_differ (codes "request") (codes "play") _ _ 114 112 refl refl (omega arith) same)
act_one (Request beat) Stop is_a is_b same = absurd (words_differ (codes "request") (codes "stop") _ _ 114 115 refl refl (omega arith) same)
act_one (Request beat) Look is_a is_b same = absurd (words_differ (codes "request") (codes "look") _ _ 114 108 refl refl (omega arith) same)
act_one (Quantum quantum) (Tempo mpb') is_a is_b same = absurd (words_differ (codes "quantum") (codes "tempo") _ _ 113 116 refl refl (omega arith) same)
act_one (Quantum quantum) (Force beat') is_a is_b same = absurd (words_differ (codes "quantum") (codes "force") _ _ 113 102 refl refl (omega arith) same)
act_one (Quantum quantum) (Request beat') is_a is_b same = absurd (words_differ (codes "quantum") (codes "request") _ _ 113 114 refl refl (omega arith) same)
act_one (Quantum quantum) (Quantum quantum') is_a is_b same = ap (λ (z : ℤ). Quantum z) (signed_one quantum quantum' (quantum_within quantum is_a) (quantum_within quantum' is_b) (cc same))
act_one (Quantum quantum) Play is_a is_b same = absurd (words_differ (codes "quantum") (codes "play") _ _ 113 112 refl refl (omega arith) same)
act_one (Quantum quantum) Stop is_a is_b same = absurd (words_differ (codes "quantum") (codes "stop") _ _ 113 115 refl refl (omega arith) same)
act_one (Quantum quantum) Look is_a is_b same = absurd (words_differ (codes "quantum") (codes "look") _ _ 113 108 refl refl (omega arith) same)
act_one Play (Tempo mpb') is_a is_b same = absurd (words_differ (codes "play") (codes "tempo") _ _ 112 116 refl refl (omega arith) same)
act_one Play (Force beat') is_a is_b same = absurd (words_differ (codes "play") (codes "force") _ _ 112 102 refl refl (omega arith) same)
act_one Play (Request beat') is_a is_b same = absurd (words_differ (codes "play") (codes "request") _ _ 112 114 refl refl (omega arith) same)
act_one Play (Quantum quantum') is_a is_b same = absurd (words_differ (codes "play") (codes "quantum") _ _ 112 113 refl refl (omega arith) same)
act_one Play Play is_a is_b same = refl
act_one Play Stop is_a is_b same = absurd (words_differ (codes "play") (codes "stop") _ _ 112 115 refl refl (omega arith) same)
act_one Play Look is_a is_b same = absurd (words_differ (codes "play") (codes "look") _ _ 112 108 refl refl (omega arith) same)
act_one Stop (Tempo mpb') is_a is_b same = absurd (words_differ (codes "stop") (codes "tempo") _ _ 115 116 refl refl (omega arith) same)
act_one Stop (Force beat') is_a is_b same = absurd (words_differ (codes "stop") (codes "force") _ _ 115 102 refl refl (omega arith) same)
act_one Stop (Request beat') is_a is_b same = absurd (words_differ (codes "stop") (codes "request") _ _ 115 114 refl refl (omega arith) same)
act_one Stop (Quantum quantum') is_a is_b same = absurd (words_differ (codes "stop") (codes "quantum") _ _ 115 113 refl refl (omega arith) same)
act_one Stop Play is_a is_b same = absurd (words_differ (codes "stop") (codes "play") _ _ 115 112 refl refl (omega arith) same)
act_one Stop Stop is_a is_b same = refl
act_one Stop Look is_a is_b same = absurd (words_differ (codes "stop") (codes "look") _ _ 115 108 refl refl (omega arith) same)
act_one Look (Tempo mpb') is_a is_b same = absurd (words_differ (codes "look") (codes "tempo") _ _ 108 116 refl refl (omega arith) same)
act_one Look (Force beat') is_a is_b same = absurd (words_differ (codes "look") (codes "force") _ _ 108 102 refl refl (omega arith) same)
act_one Look (Request beat') is_a is_b same = absurd (words_differ (codes "look") (codes "request") _ _ 108 114 refl refl (omega arith) same)
act_one Look (Quantum quantum') is_a is_b same = absurd (words_differ (codes "look") (codes "quantum") _ _ 108 113 refl refl (omega arith) same)
act_one Look Play is_a is_b same = absurd (words_differ (codes "look") (codes "play") _ _ 108 112 refl refl (omega arith) same)
act_one Look Stop is_a is_b same = absurd (words_differ (codes "look") (codes "stop") _ _ 108 115 refl refl (omega arith) same)
act_one Look Look is_a is_b same = refl

-- ---- a command

words_are : (command : Command) → IsCommand command → words_of (command_line command) ≡ command_words command
words_are (app command) is =
    words_joined (codes "at") (signed_decimal command.at ∷ act_words command.act)
    (lacks_by_test (codes "at") refl, (signed_lacks command.at (moment_within command.at is.0), act_lacks command.act is.1))
words_are (block command) is =
    words_joined (codes "block") (decimal command.block ∷ act_words command.act)
    (lacks_by_test (codes "block") refl, (number_lacks command.block (omega (arith, is.1)), act_lacks command.act is.2))

pub some_command : {A : Type 0} (to : A → Command) (line : List ℕ) (r : Option A)
    → IfSome r (λ command. IsCommand (to command) × (words_of line ≡ command_words (to command)))
    → IfSome r (λ command. IsCommand (to command) × (line ≡ command_line (to command)))
some_command to line (Some command) h = (h.0, sym (joined_words line) ∙ ap joined h.1)
some_command to line None h = tt

pub none_command : {A : Type 0} (to : A → Command) (line : List ℕ) (r : Option A)
    → IfNone r ((command : A) → IsCommand (to command) → words_of line ≡ command_words (to command) → ⊥)
    → IfNone r ((command : A) → IsCommand (to command) → line ≡ command_line (to command) → ⊥)
none_command to line (Some command) h = tt
none_command to line None h = λ command is same. h command is (ap words_of same ∙ words_are (to command) is)

-- a block is counted from 1
pub no_nought : (words left : List (List ℕ)) (number : ℕ) (command : BlockCommand) → words ≡ codes "block" ∷ decimal number ∷ left → number ≡ 0
    → IsCommand (block command) → words ≡ command_words (block command) → ⊥
no_nought words left number command is nought range same =
    let numbers : decimal command.block ≡ decimal number = cc (is, same) in
    omega (arith, decimal_injective command.block number (omega (arith, range.1)) (omega (arith, nought)) numbers, range.0)

abbrev app_from : ℤ → Act → AppCommand
app_from at act = record { at = at; act = act }

app_same : (a b : AppCommand) → a.at ≡ b.at → a.act ≡ b.act → a ≡ b
app_same a b at act = ap (λ (z : ℤ). app_from z a.act) at ∙ ap (λ (x : Act). app_from b.at x) act

abbrev block_from : ℕ → Act → BlockCommand
block_from number act = record { block = number; act = act }

block_same : (a b : BlockCommand) → a.block ≡ b.block → a.act ≡ b.act → a ≡ b
block_same a b number act = ap (λ (n : ℕ). block_from n a.act) number ∙ ap (λ (x : Act). block_from b.block x) act

-- a line says one command at most
pub command_one : (c d : Command) → IsCommand c → IsCommand d → command_line c ≡ command_line d → c ≡ d
command_one (app a) (app b) is_c is_d same =
    let words = sym (words_are (app a) is_c) ∙ ap words_of same ∙ words_are (app b) is_d in
    let ats : signed_decimal a.at ≡ signed_decimal b.at = cc words in
    let acts : act_words a.act ≡ act_words b.act = cc words in
    ap (λ (x : AppCommand). app x)
    (app_same a b (signed_one a.at b.at (moment_within a.at is_c.0) (moment_within b.at is_d.0) ats) (act_one a.act b.act is_c.1 is_d.1 acts))
command_one (app a) (block b) is_c is_d same = cc (words_are (app a) is_c, words_are (block b) is_d, same)
command_one (block a) (app b) is_c is_d same = cc (words_are (block a) is_c, words_are (app b) is_d, same)
command_one (block a) (block b) is_c is_d same =
    let words = sym (words_are (block a) is_c) ∙ ap words_of same ∙ words_are (block b) is_d in
    let numbers : decimal a.block ≡ decimal b.block = cc words in
    let acts : act_words a.act ≡ act_words b.act = cc words in
    ap (λ (x : BlockCommand). block x)
    (block_same a b (decimal_injective a.block b.block (omega (arith, is_c.1)) (omega (arith, is_d.1)) numbers) (act_one a.act b.act is_c.2 is_d.2 acts))
