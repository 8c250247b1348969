-- A line asks for one thing at most, and is short.
use Rattle.std.proofs.Common.{◌≡◌, ◌≢◌, ◌⊎◌, inl, inr, refl, sym, ◌∙◌, ap, subst, arith, ℤ, pos, negsuc, ℕ, suc, ◌+◌, ◌-◌, ◌<◌, ◌≤◌, ◌^◌, ◌==◌, if◌then◌else◌, List, [], ◌∷◌, length, Option, Some, None, IfSome}
use Rattle.std.specs.Fmt.{signed_decimal}
use Rattle.std.specs.Int.Signed.{mag}
use Rattle.std.specs.List.{onto_first}
use Rattle.std.specs.Str.Lines.{strip_carriage_return}
use Rattle.std.proofs.lemmas.Bool.{cases_eq}
use Rattle.std.proofs.lemmas.Bool.Decides.{nat_tests}
use Rattle.std.proofs.lemmas.Fmt.{length_signed_le, signed_decimal_injective}
use Rattle.std.proofs.lemmas.Int.{ints}
use Rattle.std.proofs.lemmas.List.{length-take}
use Rattle.lk_base.specs.Ranges.{IsQuantum, IsWithinLimit}
use Rattle.link_lines.proofs.LineWordLemmas.{words_some}
use Rattle.link_lines.specs.LineWords.{words_of}
use Rattle.link_script.specs.LiveScript.{IsTempo}
use Rattle.link_asks.specs.Asks.{Asks, IsAsk, IsAsked, Says, time_words}
use Rattle.link_asks.specs.Commands.{command_text_of}
use Rattle.link_asks.specs.Reasons.{IsReason}
use Rattle.link_asks.specs.TempoText.{IsBeatsPerMinute}
use Rattle.link_asks.specs.declared.ask.Ask.{Ask}
use Rattle.link_asks.specs.declared.ask.Ask.TheVariants as ask
use Rattle.link_asks.specs.declared.command.Command.{Command}
use Rattle.link_asks.specs.declared.command.Command.TheVariants as command
use Rattle.link_asks.specs.declared.reason.Reason.{Reason}
use Rattle.link_asks.specs.declared.reason.Reason.TheVariants as reason
use Rattle.link_asks.proofs.AskLemmas.{Takes, said, takes_of}
use Rattle.link_asks.proofs.CommandLemmas.{command_one}
use Rattle.link_asks.proofs.TempoLemmas.{tempo_one, text_short}

-- ---- one thing at most

mag_less : (n : ℤ) → IsWithinLimit n → mag n < 2 ^ 63
mag_less (pos n) small = omega arith
mag_less (negsuc n) small = omega arith

signed_one : (m n : ℤ) (rest : List (List ℕ)) → IsWithinLimit m → IsWithinLimit n → rest ≡ signed_decimal m ∷ [] → rest ≡ signed_decimal n ∷ [] → m ≡ n
signed_one m n rest small_m small_n is same =
    signed_decimal_injective m n (mag_less m small_m) (mag_less n small_n) (cc (is, same))

tempo_within : (n : ℤ) → IsTempo n → IsWithinLimit n
tempo_within (pos n) is = omega (arith, ints, is.slowest)
tempo_within (negsuc n) is = absurd (omega (arith, ints, is.fastest))

quantum_within : (n : ℤ) → IsQuantum n → IsWithinLimit n
quantum_within (pos n) is = omega (arith, ints, is.1)
quantum_within (negsuc n) is = absurd (omega (arith, ints, is.0))

time_one : (a b : Option ℤ) (rest : List (List ℕ)) → IfSome a IsWithinLimit → IfSome b IsWithinLimit → rest ≡ time_words a → rest ≡ time_words b → a ≡ b
time_one (Some m) (Some n) rest small_m small_n is same = ap (λ (z : ℤ). Some z) (signed_one m n rest small_m small_n is same)
time_one (Some m) None rest small_m small_n is same = cc (is, same)
time_one None (Some n) rest small_m small_n is same = cc (is, same)
time_one None None rest small_m small_n is same = refl

-- what a command asks for, by the number behind it
number_one : (to : ℤ → Ask) (rest : List (List ℕ)) (a b : Ask) → ((n : ℤ) → IsAsk (to n) → IsWithinLimit n) → IsAsk a → IsAsk b
    → (n : ℤ) × (a ≡ to n) × (rest ≡ signed_decimal n ∷ []) → (n : ℤ) × (b ≡ to n) × (rest ≡ signed_decimal n ∷ []) → a ≡ b
number_one to rest a b within range_a range_b (m, a_is, is) (n, b_is, same) =
    a_is ∙ ap to (signed_one m n rest (within m (subst IsAsk a_is range_a)) (within n (subst IsAsk b_is range_b)) is same) ∙ sym b_is

pair_one : (to : ℤ → ℤ → Ask) (rest : List (List ℕ)) (a b : Ask) → ((m n : ℤ) → IsAsk (to m n) → IsWithinLimit m × IsWithinLimit n) → IsAsk a → IsAsk b
    → (m n : ℤ) × (a ≡ to m n) × (rest ≡ signed_decimal m ∷ signed_decimal n ∷ [])
    → (m n : ℤ) × (b ≡ to m n) × (rest ≡ signed_decimal m ∷ signed_decimal n ∷ []) → a ≡ b
pair_one to rest a b within range_a range_b (m, n, a_is, is) (m', n', b_is, same) =
    let small = within m n (subst IsAsk a_is range_a) in
    let small' = within m' n' (subst IsAsk b_is range_b) in
    let first : m ≡ m' = signed_decimal_injective m m' (mag_less m small.0) (mag_less m' small'.0) (cc (is, same)) in
    let second : n ≡ n' = signed_decimal_injective n n' (mag_less n small.1) (mag_less n' small'.1) (cc (is, same)) in
    a_is ∙ ap (λ (z : ℤ). to z n) first ∙ ap (λ (z : ℤ). to m' z) second ∙ sym b_is

takes_one : (c : Command) (rest : List (List ℕ)) (a b : Ask) → IsAsk a → IsAsk b → Takes c rest a → Takes c rest b → a ≡ b
takes_one command.Status rest a b range_a range_b is same = is.0 ∙ sym same.0
takes_one command.Now rest a b range_a range_b is same = is.0 ∙ sym same.0
takes_one command.Beat rest a b range_a range_b is same = number_one (λ (n : ℤ). ask.Beat n) rest a b (λ n within. within) range_a range_b is same
takes_one command.Phase rest a b range_a range_b is same = number_one (λ (n : ℤ). ask.Phase n) rest a b (λ n within. within) range_a range_b is same
takes_one command.Time rest a b range_a range_b is same = number_one (λ (n : ℤ). ask.Time n) rest a b (λ n within. within) range_a range_b is same
takes_one command.Tempo rest a b range_a range_b is same = number_one (λ (n : ℤ). ask.Tempo n) rest a b tempo_within range_a range_b is same
takes_one command.Bpm rest a b range_a range_b (m, a_is, (text, is, says)) (n, b_is, (other, same, tells)) =
    let texts : other ≡ text = cc (is, same) in
    a_is
    ∙ ap (λ (z : ℤ). ask.Tempo z)
    (tempo_one text m n (subst IsAsk a_is range_a) (subst IsAsk b_is range_b) says (subst (λ (l : List ℕ). IsBeatsPerMinute l n) texts tells))
    ∙ sym b_is
takes_one command.Play rest a b range_a range_b (at, a_is, is) (other, b_is, same) =
    a_is ∙ ap (λ (o : Option ℤ). ask.Play o) (time_one at other rest (subst IsAsk a_is range_a) (subst IsAsk b_is range_b) is same) ∙ sym b_is
takes_one command.Stop rest a b range_a range_b (at, a_is, is) (other, b_is, same) =
    a_is ∙ ap (λ (o : Option ℤ). ask.Stop o) (time_one at other rest (subst IsAsk a_is range_a) (subst IsAsk b_is range_b) is same) ∙ sym b_is
takes_one command.Force rest a b range_a range_b is same = pair_one (λ (m n : ℤ). ask.Force m n) rest a b (λ m n within. within) range_a range_b is same
takes_one command.Request rest a b range_a range_b is same = pair_one (λ (m n : ℤ). ask.Request m n) rest a b (λ m n within. within) range_a range_b is same
takes_one command.Quantum rest a b range_a range_b is same = number_one (λ (n : ℤ). ask.Quantum n) rest a b quantum_within range_a range_b is same
takes_one command.Watch rest a b range_a range_b is same = is.0 ∙ sym same.0
takes_one command.Unwatch rest a b range_a range_b is same = is.0 ∙ sym same.0
takes_one command.Clients rest a b range_a range_b is same = is.0 ∙ sym same.0
takes_one command.Gates rest a b range_a range_b is same = is.0 ∙ sym same.0
takes_one command.End rest a b range_a range_b is same = is.0 ∙ sym same.0

pub asked_one : (line : List ℕ) (asked other : Ask) → Asks line asked → Asks line other → asked ≡ other
asked_one line asked other one two =
    let s = said (words_of (strip_carriage_return line)) asked one.said in
    let t = takes_of s.by s.rest other (subst (λ (l : List (List ℕ)). Says l other) s.words_are two.said) in
    takes_one s.by s.rest asked other one.range two.range s.takes t

-- ---- such a line is short

-- how long words are with a space behind each
abbrev lengths : List (List ℕ) → ℕ
lengths [] = 0
lengths (word ∷ words) = length word + 1 + lengths words

onto_length : (b : ℕ) (words : List (List ℕ)) → (words ≡ [] → ⊥) → lengths (onto_first b words) ≡ suc (lengths words)
onto_length b [] some = absurd (some refl)
onto_length b (word ∷ words) some = omega arith

step_length : (b : ℕ) (line : List ℕ) (words : List (List ℕ)) → lengths words ≡ length line + 1 → (words ≡ [] → ⊥) → (b ≡ 32) ⊎ (b ≢ 32)
    → lengths (if b == 32 then [] ∷ words else onto_first b words) ≡ suc (length line) + 1
step_length b line words is some (inl same) =
    let opened : (if b == 32 then [] ∷ words else onto_first b words) ≡ [] ∷ words = grind (arith, nat_tests) in
    ap lengths opened ∙ omega arith
step_length b line words is some (inr other) =
    let opened : (if b == 32 then [] ∷ words else onto_first b words) ≡ onto_first b words = grind (arith, nat_tests) in
    ap lengths opened ∙ omega (arith, onto_length b words some)

words_length : (line : List ℕ) → lengths (words_of line) ≡ length line + 1
unfolding words_of
words_length [] = refl
words_length (b ∷ line) = step_length b line (words_of line) (words_length line) (words_some line) (cases_eq b 32)

strip_length : (line : List ℕ) → length line ≤ length (strip_carriage_return line) + 1
strip_length line = grind (arith, nat_tests, length-take (length line - 1) line)

within_small : (n : ℤ) → IsWithinLimit n → mag n + 1 < 10 ^ 19
within_small (pos n) is = omega arith
within_small (negsuc n) is = omega arith

signed_short : (n : ℤ) → IsWithinLimit n → length (signed_decimal n) ≤ 20
signed_short n small = omega (arith, length_signed_le 19 n (within_small n small) (mag_less n small))

number_short : (to : ℤ → Ask) (rest : List (List ℕ)) (a : Ask) → ((n : ℤ) → IsAsk (to n) → IsWithinLimit n) → IsAsk a
    → (n : ℤ) × (a ≡ to n) × (rest ≡ signed_decimal n ∷ []) → lengths rest ≤ 42
number_short to rest a within range (n, a_is, is) =
    omega (arith, ap lengths is, signed_short n (within n (subst IsAsk a_is range)))

pair_short : (to : ℤ → ℤ → Ask) (rest : List (List ℕ)) (a : Ask) → ((m n : ℤ) → IsAsk (to m n) → IsWithinLimit m × IsWithinLimit n) → IsAsk a
    → (m n : ℤ) × (a ≡ to m n) × (rest ≡ signed_decimal m ∷ signed_decimal n ∷ []) → lengths rest ≤ 42
pair_short to rest a within range (m, n, a_is, is) =
    let small = within m n (subst IsAsk a_is range) in
    omega (arith, ap lengths is, signed_short m small.0, signed_short n small.1)

time_short : (at : Option ℤ) → IfSome at IsWithinLimit → lengths (time_words at) ≤ 42
time_short (Some at) small = omega (arith, signed_short at small)
time_short None small = omega arith

takes_short : (c : Command) (rest : List (List ℕ)) (a : Ask) → IsAsk a → Takes c rest a → lengths rest ≤ 42
takes_short command.Status rest a range is = omega (arith, ap lengths is.1)
takes_short command.Now rest a range is = omega (arith, ap lengths is.1)
takes_short command.Beat rest a range is = number_short (λ (n : ℤ). ask.Beat n) rest a (λ n within. within) range is
takes_short command.Phase rest a range is = number_short (λ (n : ℤ). ask.Phase n) rest a (λ n within. within) range is
takes_short command.Time rest a range is = number_short (λ (n : ℤ). ask.Time n) rest a (λ n within. within) range is
takes_short command.Tempo rest a range is = number_short (λ (n : ℤ). ask.Tempo n) rest a tempo_within range is
takes_short command.Bpm rest a range (mpb, a_is, (text, is, says)) = omega (arith, ap lengths is, text_short text mpb (subst IsAsk a_is range) says)
takes_short command.Play rest a range (at, a_is, is) = omega (arith, ap lengths is, time_short at (subst IsAsk a_is range))
takes_short command.Stop rest a range (at, a_is, is) = omega (arith, ap lengths is, time_short at (subst IsAsk a_is range))
takes_short command.Force rest a range is = pair_short (λ (m n : ℤ). ask.Force m n) rest a (λ m n within. within) range is
takes_short command.Request rest a range is = pair_short (λ (m n : ℤ). ask.Request m n) rest a (λ m n within. within) range is
takes_short command.Quantum rest a range is = number_short (λ (n : ℤ). ask.Quantum n) rest a quantum_within range is
takes_short command.Watch rest a range is = omega (arith, ap lengths is.1)
takes_short command.Unwatch rest a range is = omega (arith, ap lengths is.1)
takes_short command.Clients rest a range is = omega (arith, ap lengths is.1)
takes_short command.Gates rest a range is = omega (arith, ap lengths is.1)
takes_short command.End rest a range is = omega (arith, ap lengths is.1)

command_short : (c : Command) → length (command_text_of c) ≤ 7
unfolding command_text_of
command_short command.Status = omega arith
command_short command.Now = omega arith
command_short command.Beat = omega arith
command_short command.Phase = omega arith
command_short command.Time = omega arith
command_short command.Tempo = omega arith
command_short command.Bpm = omega arith
command_short command.Play = omega arith
command_short command.Stop = omega arith
command_short command.Force = omega arith
command_short command.Request = omega arith
command_short command.Quantum = omega arith
command_short command.Watch = omega arith
command_short command.Unwatch = omega arith
command_short command.Clients = omega arith
command_short command.Gates = omega arith
command_short command.End = omega arith

pub asked_short : (line : List ℕ) (asked : Ask) → Asks line asked → length line ≤ 128
asked_short line asked is =
    let text = strip_carriage_return line in
    let s = said (words_of text) asked is.said in
    let words : lengths (words_of text) ≡ length (command_text_of s.by) + 1 + lengths s.rest = ap lengths s.words_are in
    omega (arith, words, words_length text, strip_length line, command_short s.by, takes_short s.by s.rest asked is.range s.takes)

-- a longer one asks for nothing
pub none_asked : (line : List ℕ) → 128 < length line → IsAsked line None
none_asked line long = λ asked is. omega (arith, asked_short line asked is)

-- ---- a line has one reason

pub reason_one : (line : List ℕ) (r other : Reason) → IsReason line r → IsReason line other → r ≡ other
reason_one line reason.TooLong reason.TooLong is same = refl
reason_one line reason.TooLong reason.NoCommand is same = absurd (omega (arith, same.0))
reason_one line reason.TooLong (reason.Takes d) is same = absurd (omega (arith, same.0))
reason_one line reason.NoCommand reason.TooLong is same = absurd (omega (arith, is.0))
reason_one line reason.NoCommand reason.NoCommand is same = refl
reason_one line reason.NoCommand (reason.Takes d) is same = absurd (is.1 d same.1)
reason_one line (reason.Takes c) reason.TooLong is same = absurd (omega (arith, is.0))
reason_one line (reason.Takes c) reason.NoCommand is same = absurd (same.1 c is.1)
reason_one line (reason.Takes c) (reason.Takes d) is same =
    ap (λ (k : Command). reason.Takes k) (command_one c d (cc (is.1, same.1)))
