-- What a line asks for, command by command.
use Rattle.std.proofs.Common.{◌≡◌, inl, inr, refl, sym, ap, subst, ℕ, ℤ, List, [], ◌∷◌, Option, Some, None, IfSome, IfNone, FitsSigned, w64, to_z, of_z}
use Rattle.std.proofs.lemmas.Int.{to_z-of_z}
use Rattle.std.specs.Fmt.{signed_decimal}
use Rattle.link_asks.specs.Asks.{IsAsk, Says, time_words}
use Rattle.link_asks.specs.Commands.{command_text_of}
use Rattle.link_asks.specs.TempoText.{IsBeatsPerMinute}
use Rattle.link_asks.specs.declared.ask.Ask.{Ask}
use Rattle.link_asks.specs.declared.ask.Ask.TheVariants as ask
use Rattle.link_asks.specs.declared.command.Command.{Command}
use Rattle.link_asks.specs.declared.command.Command.TheVariants as command
use Rattle.link_asks.proofs.CommandLemmas.{command_one}

-- what a command asks for with these words behind it
abbrev pub Takes : Command → List (List ℕ) → Ask → Type 0
Takes command.Status rest asked = (asked ≡ ask.Status) × (rest ≡ [])
Takes command.Now rest asked = (asked ≡ ask.Now) × (rest ≡ [])
Takes command.Beat rest asked = (time : ℤ) × (asked ≡ ask.Beat time) × (rest ≡ signed_decimal time ∷ [])
Takes command.Phase rest asked = (time : ℤ) × (asked ≡ ask.Phase time) × (rest ≡ signed_decimal time ∷ [])
Takes command.Time rest asked = (beat : ℤ) × (asked ≡ ask.Time beat) × (rest ≡ signed_decimal beat ∷ [])
Takes command.Tempo rest asked = (mpb : ℤ) × (asked ≡ ask.Tempo mpb) × (rest ≡ signed_decimal mpb ∷ [])
Takes command.Bpm rest asked = (mpb : ℤ) × (asked ≡ ask.Tempo mpb) × ((text : List ℕ) × (rest ≡ text ∷ []) × IsBeatsPerMinute text mpb)
Takes command.Play rest asked = (at : Option ℤ) × (asked ≡ ask.Play at) × (rest ≡ time_words at)
Takes command.Stop rest asked = (at : Option ℤ) × (asked ≡ ask.Stop at) × (rest ≡ time_words at)
Takes command.Force rest asked = (beat at : ℤ) × (asked ≡ ask.Force beat at) × (rest ≡ signed_decimal beat ∷ signed_decimal at ∷ [])
Takes command.Request rest asked = (beat at : ℤ) × (asked ≡ ask.Request beat at) × (rest ≡ signed_decimal beat ∷ signed_decimal at ∷ [])
Takes command.Quantum rest asked = (quantum : ℤ) × (asked ≡ ask.Quantum quantum) × (rest ≡ signed_decimal quantum ∷ [])
Takes command.Watch rest asked = (asked ≡ ask.Watch) × (rest ≡ [])
Takes command.Unwatch rest asked = (asked ≡ ask.Unwatch) × (rest ≡ [])
Takes command.Clients rest asked = (asked ≡ ask.Clients) × (rest ≡ [])
Takes command.Gates rest asked = (asked ≡ ask.Gates) × (rest ≡ [])
Takes command.End rest asked = (asked ≡ ask.End) × (rest ≡ [])

-- words are a command and what it takes
pub record IsSaid (words : List (List ℕ)) (asked : Ask) : Type 0 where
  pub by : Command
  pub rest : List (List ℕ)
  pub words_are : words ≡ command_text_of by ∷ rest
  pub takes : Takes by rest asked

pub said : (words : List (List ℕ)) (asked : Ask) → Says words asked → IsSaid words asked
unfolding command_text_of
said words ask.Status is = record { by = command.Status; rest = []; words_are = is; takes = (refl, refl) }
said words ask.Now is = record { by = command.Now; rest = []; words_are = is; takes = (refl, refl) }
said words (ask.Beat time) is = record { by = command.Beat; rest = signed_decimal time ∷ []; words_are = is; takes = (time, refl, refl) }
said words (ask.Phase time) is = record { by = command.Phase; rest = signed_decimal time ∷ []; words_are = is; takes = (time, refl, refl) }
said words (ask.Time beat) is = record { by = command.Time; rest = signed_decimal beat ∷ []; words_are = is; takes = (beat, refl, refl) }
said words (ask.Tempo mpb) (inl is) = record { by = command.Tempo; rest = signed_decimal mpb ∷ []; words_are = is; takes = (mpb, refl, refl) }
said words (ask.Tempo mpb) (inr (text, is, bpm)) = record { by = command.Bpm; rest = text ∷ []; words_are = is; takes = (mpb, refl, (text, refl, bpm)) }
said words (ask.Play at) is = record { by = command.Play; rest = time_words at; words_are = is; takes = (at, refl, refl) }
said words (ask.Stop at) is = record { by = command.Stop; rest = time_words at; words_are = is; takes = (at, refl, refl) }
said words (ask.Force beat at) is = record { by = command.Force; rest = signed_decimal beat ∷ signed_decimal at ∷ []; words_are = is; takes = (beat, at, refl, refl) }
said words (ask.Request beat at) is = record { by = command.Request; rest = signed_decimal beat ∷ signed_decimal at ∷ []; words_are = is; takes = (beat, at, refl, refl) }
said words (ask.Quantum quantum) is = record { by = command.Quantum; rest = signed_decimal quantum ∷ []; words_are = is; takes = (quantum, refl, refl) }
said words ask.Watch is = record { by = command.Watch; rest = []; words_are = is; takes = (refl, refl) }
said words ask.Unwatch is = record { by = command.Unwatch; rest = []; words_are = is; takes = (refl, refl) }
said words ask.Clients is = record { by = command.Clients; rest = []; words_are = is; takes = (refl, refl) }
said words ask.Gates is = record { by = command.Gates; rest = []; words_are = is; takes = (refl, refl) }
said words ask.End is = record { by = command.End; rest = []; words_are = is; takes = (refl, refl) }

pub takes_of : (c : Command) (rest : List (List ℕ)) (asked : Ask) → Says (command_text_of c ∷ rest) asked → Takes c rest asked
takes_of c rest asked says =
    let s = said (command_text_of c ∷ rest) asked says in
    let words : command_text_of c ∷ rest ≡ command_text_of s.by ∷ s.rest = s.words_are in
    let by : s.by ≡ c = command_one s.by c (cc words) in
    let rests : s.rest ≡ rest = cc words in
    subst (λ (k : Command). Takes k rest asked) by (subst (λ (l : List (List ℕ)). Takes s.by l asked) rests s.takes)

-- ---- a command that takes nothing

pub alone_some : (c d : Command) (a : Ask) (rest : List (List ℕ)) (r : Option Ask) → c ≡ d → IsAsk a → Says (command_text_of d ∷ []) a
    → IfSome r (λ it. (it ≡ a) × (rest ≡ [])) → IfSome r (λ asked. IsAsk asked × Says (command_text_of c ∷ rest) asked)
alone_some c d a rest None is range says found = tt
alone_some c d a rest (Some it) is range says (same, none) =
    let words : command_text_of c ∷ rest ≡ command_text_of d ∷ [] = cc (is, none) in
    subst (λ (k : Ask). IsAsk k × Says (command_text_of c ∷ rest) k) (sym same)
    (range, subst (λ (l : List (List ℕ)). Says l a) (sym words) says)

pub alone_none : (c d : Command) (rest : List (List ℕ)) (r : Option Ask) → c ≡ d → ((asked : Ask) → Takes d rest asked → rest ≡ [])
    → IfNone r (rest ≡ [] → ⊥) → IfNone r ((asked : Ask) → IsAsk asked → Says (command_text_of c ∷ rest) asked → ⊥)
alone_none c d rest (Some it) is nothing none = tt
alone_none c d rest None is nothing none = λ asked range says.
    none (nothing asked (subst (λ (k : Command). Takes k rest asked) is (takes_of c rest asked says)))

-- ---- a command that takes something

-- where what follows is nothing that it takes
pub no_ask : (c d : Command) (rest : List (List ℕ)) (r : Option Ask) → c ≡ d → ((asked : Ask) → IsAsk asked → Takes d rest asked → ⊥)
    → IfNone r ((asked : Ask) → IsAsk asked → Says (command_text_of c ∷ rest) asked → ⊥)
no_ask c d rest (Some it) is none = tt
no_ask c d rest None is none = λ asked range says.
    none asked range (subst (λ (k : Command). Takes k rest asked) is (takes_of c rest asked says))

-- a number is what is stored of it
pub stored : (words : List (List ℕ)) (to : ℤ → Ask) (n : ℤ) → FitsSigned w64 n → IsAsk (to n) → Says words (to n)
    → IsAsk (to (to_z w64 (of_z w64 n))) × Says words (to (to_z w64 (of_z w64 n)))
stored words to n fits range says =
    subst (λ (z : ℤ). IsAsk (to z) × Says words (to z)) (sym (to_z-of_z w64 n fits)) (range, says)

pub says_by : (c d : Command) (word : List ℕ) (rest words : List (List ℕ)) → c ≡ d → command_text_of d ≡ word → rest ≡ words
    → command_text_of c ∷ rest ≡ word ∷ words
says_by c d word rest words is text same = cc (ap command_text_of is, text, same)

-- a line whose first word is no command asks for nothing
pub no_command_said : (words : List (List ℕ)) (word : List ℕ) (rest : List (List ℕ)) → words ≡ word ∷ rest
    → ((c : Command) → word ≡ command_text_of c → ⊥) → (asked : Ask) → IsAsk asked → Says words asked → ⊥
no_command_said words word rest is none asked range says =
    let s = said words asked says in
    none s.by (cc (is, s.words_are))
