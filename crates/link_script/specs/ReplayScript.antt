-- Replay scripts: a head that says how a node is opened, and then a line for each of its events.
use Rattle.std.specs.Prelude.{◌≡◌, ◌≤◌, ◌<◌, ◌^◌, ◌⊎◌, ℕ, ℤ, false, List, [], ◌∷◌, ◌++◌, length, map, codes, All, drop, if◌then◌else◌, nat_eq, pos, Ok, Option, Some, None}
use Rattle.std.specs.List.{AllByRecursion, flat_map}
use Rattle.std.specs.Fmt.{decimal, signed_decimal}
use Rattle.hex.specs.Hex.{decode_of, encode_lower}
use Rattle.lk_base.specs.Endpoint.{IsEndpoint}
use Rattle.lk_base.specs.Ranges.{IsMoment}
use Rattle.lk_base.specs.declared.endpoint.Endpoint.{Endpoint}
use Rattle.lk_base.specs.declared.ids.NodeId.{NodeId}
use Rattle.lk_base.specs.declared.start.ClientStart.{ClientStart}
use Rattle.lk_base.specs.declared.timeline.Timeline.{Timeline}
use Rattle.link_payload.specs.Entries.{AreBytes}
use Rattle.client_state.specs.Commit.{IsTidyCommit}
use Rattle.client_state.specs.declared.commit.Commit.{Commit}
use Rattle.link_node.specs.Config.{ConfigValue, GateValue, IsConfig}
use Rattle.link_node.specs.Event.{EventValue, Rx, Tick, App, Audio, End, moment_of, audio_after}
use Rattle.link_lines.specs.Lines.{lines_of, is_passed, counting_in}
use Rattle.link_script.specs.FirstFault as faults
use Rattle.link_lines.specs.Words.{joined, truth_text_of, endpoint_text_of}

-- ---- the head

-- an id can be spelled where it is eight characters from `!` to `~`
pub record IsVisibleId (id : NodeId) : Type 0 where
  pub eight : length id.0 ≡ 8
  pub visible : All (λ c. (33 ≤ c) × (c ≤ 126)) id.0

-- at most 32 destinations
pub record IsGate (gate : GateValue) : Type 0 where
  pub local : IsEndpoint gate.local
  pub few : length gate.destinations ≤ 32
  pub destinations : All IsEndpoint gate.destinations

-- what a head can say: the seed is a number of 64 bits, and the group one of 16
pub record IsHead (config : ConfigValue) (now : ℤ) : Type 0 where
  pub id : IsVisibleId config.id
  pub seed : config.seed < 2 ^ 64
  pub group : config.group < 2 ^ 16
  pub opens : IsConfig config
  pub gates : All IsGate config.gates
  pub moment : IsMoment now

abbrev pub version_line : ℕ → List ℕ
version_line version = joined (codes "replay" ∷ decimal version ∷ [])

abbrev pub node_line : ConfigValue → ℤ → List ℕ
node_line config now =
    joined (codes "node" ∷ config.id.0 ∷ decimal config.seed ∷ signed_decimal config.mpb ∷ truth_text_of config.sync ∷ signed_decimal now ∷ [])

abbrev pub group_line : ℕ → List ℕ
group_line group = joined (codes "group" ∷ decimal group ∷ [])

abbrev pub quantum_line : ℤ → List ℕ
quantum_line quantum = joined (codes "quantum" ∷ signed_decimal quantum ∷ [])

-- the lines of the group and of the quantum: version 1 has none
abbrev pub profile_lines : ℕ → ConfigValue → List (List ℕ)
profile_lines version config = if nat_eq version 1 then [] else group_line config.group ∷ quantum_line config.quantum ∷ []

-- Rule: A replay script has the version 2, or 1 for one without lines of group and quantum.
-- A script is of version 1 or 2. One of version 1 opens a node in the group 0 and with a quantum of four beats.
abbrev pub IsVersion : ℕ → ConfigValue → Type 0
IsVersion version config = ((version ≡ 1) × (config.group ≡ 0) × (config.quantum ≡ pos 4_000_000)) ⊎ (version ≡ 2)

abbrev pub gate_line : Endpoint → List ℕ
gate_line local = joined (codes "gate" ∷ endpoint_text_of local ∷ [])

abbrev pub to_line : Endpoint → List ℕ
to_line to = joined (codes "to" ∷ endpoint_text_of to ∷ [])

-- a gate's line, and those of its destinations
abbrev pub gate_lines : GateValue → List (List ℕ)
gate_lines gate = gate_line gate.local ∷ map to_line gate.destinations

unfoldable pub head_lines : ℕ → ConfigValue → ℤ → List (List ℕ)
head_lines version config now =
    version_line version ∷ node_line config now ∷ (profile_lines version config ++ flat_map gate_lines config.gates)

-- ---- an event

-- the words of a timeline, a start and a quantum, where they are there
abbrev pub timeline_words : Option Timeline → List (List ℕ)
timeline_words None = []
timeline_words (Some tl) = codes "t" ∷ signed_decimal tl.mpb ∷ signed_decimal tl.beat ∷ signed_decimal tl.time ∷ []

abbrev pub start_words : Option ClientStart → List (List ℕ)
start_words None = []
start_words (Some start) = codes "s" ∷ truth_text_of start.playing ∷ signed_decimal start.time ∷ signed_decimal start.stamp ∷ []

abbrev pub quantum_words : Option ℤ → List (List ℕ)
quantum_words None = []
quantum_words (Some quantum) = codes "q" ∷ signed_decimal quantum ∷ []

-- Rule: The line of a commit has its moment, when it was made, and of a timeline, a start and a quantum those that it carries.
abbrev pub commit_words : Commit → List (List ℕ)
commit_words commit =
    signed_decimal commit.at ∷ (timeline_words commit.timeline ++ (start_words commit.start ++ quantum_words commit.quantum))

-- Rule: The line of a datagram has its moment, the gate by its place from 0, the sender and the bytes.
-- the words of an event, with a word for the bytes of a datagram
unfoldable pub event_words : List ℕ → EventValue → List (List ℕ)
event_words hex (Rx gate from bytes now) = codes "rx" ∷ signed_decimal now ∷ decimal gate.0 ∷ endpoint_text_of from ∷ hex ∷ []
event_words hex (Tick now) = codes "tick" ∷ signed_decimal now ∷ []
event_words hex (App commit now) = codes "app" ∷ signed_decimal now ∷ commit_words commit
event_words hex (Audio number commit now) = codes "audio" ∷ signed_decimal now ∷ decimal number ∷ commit_words commit
event_words hex (End now) = codes "end" ∷ signed_decimal now ∷ []

-- hex digits of either case, two for each byte; no bytes are a hyphen
abbrev pub IsHexOf : List ℕ → List ℕ → Type 0
IsHexOf word [] = word ≡ 45 ∷ []
IsHexOf word (b ∷ bytes) = decode_of word ≡ Ok (b ∷ bytes)

abbrev pub IsHexIn : List ℕ → EventValue → Type 0
IsHexIn hex (Rx gate from bytes now) = IsHexOf hex bytes
IsHexIn hex (Tick now) = Unit {0}
IsHexIn hex (App commit now) = Unit {0}
IsHexIn hex (Audio number commit now) = Unit {0}
IsHexIn hex (End now) = Unit {0}

-- what an event line can say, where there are so many gates and the last audio commit had this number
abbrev pub IsEventKind : ℕ → ℕ → EventValue → Type 0
IsEventKind gates audio (Rx gate from bytes now) = (gate.0 < gates) × IsEndpoint from × AreBytes bytes × (length bytes ≤ 513)
IsEventKind gates audio (Tick now) = Unit {0}
IsEventKind gates audio (App commit now) = IsTidyCommit commit
IsEventKind gates audio (Audio number commit now) = IsTidyCommit commit × (audio < number) × (number < 2 ^ 60)
IsEventKind gates audio (End now) = Unit {0}

pub record IsEventLine (gates audio : ℕ) (line : List ℕ) (e : EventValue) : Type 0 where
  pub moment : IsMoment (moment_of e)
  pub kind : IsEventKind gates audio e
  pub hex : List ℕ
  pub hex_is : IsHexIn hex e
  pub said : line ≡ joined (event_words hex e)

-- each line says its event
abbrev pub AreEventLines : ℕ → ℕ → List (List ℕ) → List EventValue → Type 0
AreEventLines gates audio [] [] = Unit {0}
AreEventLines gates audio (line ∷ lines) (e ∷ es) =
    IsEventLine gates audio line e × AreEventLines gates (audio_after audio e) lines es
AreEventLines gates audio [] (e ∷ es) = ⊥
AreEventLines gates audio (line ∷ lines) [] = ⊥

-- a commit of version 1 has no quantum
abbrev pub IsWithoutQuantum : EventValue → Type 0
IsWithoutQuantum (Rx gate from bytes now) = Unit {0}
IsWithoutQuantum (Tick now) = Unit {0}
IsWithoutQuantum (App commit now) = commit.quantum ≡ None
IsWithoutQuantum (Audio number commit now) = commit.quantum ≡ None
IsWithoutQuantum (End now) = Unit {0}

-- ---- a script

-- Rule: A replay script is `replay 2` and then lines of the node, its group, its quantum, its gates and its events, in this order.
-- the lines that count are those of the head and then those of the events
pub record IsScript (lines : List (List ℕ)) (version : ℕ) (config : ConfigValue) (now : ℤ) (es : List EventValue) : Type 0 where
  pub known : IsVersion version config
  pub head : IsHead config now
  pub rest : List (List ℕ)
  pub said : counting_in lines ≡ head_lines version config now ++ rest
  pub events : AreEventLines (length config.gates) 0 rest es
  pub plain : version ≡ 1 → AllByRecursion IsWithoutQuantum es

abbrev pub IsScriptOf : List ℕ → ℕ → ConfigValue → ℤ → List EventValue → Type 0
IsScriptOf text version config now es = IsScript (lines_of text) version config now es

-- some version, config, opening moment and events are said by these lines
abbrev pub IsSomeScript : List (List ℕ) → Type 0
IsSomeScript lines =
    (version : ℕ) × (config : ConfigValue) × (now : ℤ) × (es : List EventValue) × IsScript lines version config now es

-- the text is no script
abbrev pub IsNoScript : List ℕ → Type 0
IsNoScript text = faults.IsNone IsSomeScript text

-- ---- the first line at fault

abbrev pub IsFaultAt : List (List ℕ) → ℕ → Type 0
IsFaultAt lines k = faults.IsFaultAt IsSomeScript lines k

abbrev pub IsCutShort : List (List ℕ) → ℕ → Type 0
IsCutShort lines k = faults.IsCutShort IsSomeScript lines k

-- the first line at fault, counted from 1, those passed over among them
abbrev pub IsFirstFault : List ℕ → ℕ → Type 0
IsFirstFault text k = faults.IsFirstFault IsSomeScript text k

abbrev pub IsLineFault : List ℕ → ℕ → Type 0
IsLineFault text k = faults.IsLineFault IsSomeScript text k

-- ---- from a place on

-- the lines that begin at a place say these events, of the gates that a node may have
pub record SaysFrom (gates audio : ℕ) (text : List ℕ) (at : ℕ) (es : List EventValue) : Type 0 where
  pub few : gates ≤ 4
  pub within : at ≤ length text
  pub lines : AreEventLines gates audio (counting_in (lines_of (drop at text))) es

-- whichever events are said from a place on, this is the first, and the others are said from the next place on
abbrev pub IsNextEvent : List ℕ → ℕ → ℕ → EventValue → Type 0
IsNextEvent text at next e =
    (gates audio : ℕ) (es : List EventValue) → SaysFrom gates audio text at es
    → (rest : List EventValue) × (es ≡ e ∷ rest) × SaysFrom gates (audio_after audio e) text next rest

-- some events are said from there on
abbrev pub SaysSome : List ℕ → ℕ → Type 0
SaysSome text at = (gates audio : ℕ) × (es : List EventValue) × SaysFrom gates audio text at es

-- behind whole lines, a line that counts begins at the place, or the text ends there
pub record IsAtLine (text : List ℕ) (at : ℕ) : Type 0 where
  pub before : List (List ℕ)
  pub lines : lines_of text ≡ before ++ lines_of (drop at text)
  pub within : at ≤ length text
  pub counts : (line : List ℕ) (rest : List (List ℕ)) → lines_of (drop at text) ≡ line ∷ rest → is_passed line ≡ false

-- the next place is behind the first line that counts from a place on
pub record IsBehindLine (text : List ℕ) (at next : ℕ) : Type 0 where
  pub passed : List (List ℕ)
  pub line : List ℕ
  pub lines : lines_of (drop at text) ≡ passed ++ line ∷ lines_of (drop next text)
  pub none : counting_in passed ≡ []
  pub counts : is_passed line ≡ false
  pub within : next ≤ length text

-- the text is a script with this head, and its events are said from the place on, which is that of the first one's line, or the text's end
pub record IsChecked (text : List ℕ) (version : ℕ) (config : ConfigValue) (now : ℤ) (first : ℕ) : Type 0 where
  pub es : List EventValue
  pub script : IsScriptOf text version config now es
  pub place : IsAtLine text first
  pub from : SaysFrom (length config.gates) 0 text first es

-- what is written for a node and its events: hex in lower case
abbrev pub hex_word : List ℕ → List ℕ
hex_word [] = 45 ∷ []
hex_word (b ∷ bytes) = encode_lower (b ∷ bytes)

abbrev pub hex_of : EventValue → List ℕ
hex_of (Rx gate from bytes now) = hex_word bytes
hex_of (Tick now) = []
hex_of (App commit now) = []
hex_of (Audio number commit now) = []
hex_of (End now) = []

abbrev pub event_line : EventValue → List ℕ
event_line e = joined (event_words (hex_of e) e)

-- the whole text that is written, of version 2, each line with its line feed
abbrev pub ended : List ℕ → List ℕ
ended line = line ++ 10 ∷ []

-- Rule: A script that is written from a node and its events is read as just these.
unfoldable pub written_script_of : ConfigValue → ℤ → List EventValue → List ℕ
written_script_of config now es = flat_map ended (head_lines 2 config now) ++ flat_map (λ e. ended (event_line e)) es

-- each event can be said after those before it
abbrev pub AreSayable : ℕ → ℕ → List EventValue → Type 0
AreSayable gates audio [] = Unit {0}
AreSayable gates audio (e ∷ es) =
    (IsMoment (moment_of e) × IsEventKind gates audio e) × AreSayable gates (audio_after audio e) es
