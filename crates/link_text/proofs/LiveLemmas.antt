-- Live scripts: how far a text is one, and where it stops to be one.
use Rattle.std.proofs.Common.{◌≡◌, inl, inr, refl, sym, ◌∙◌, ap, subst, arith, ℤ, ℕ, ◌+◌, ◌-◌, ◌≤◌, ◌^◌, Bool, true, false, not, if◌then◌else◌, List, [], ◌∷◌, ◌++◌, length, map, filter, drop}
use Rattle.std.specs.List.{All, flat_map}
use Rattle.std.proofs.lemmas.List.{append_assoc, append-nil, map-append, length-append}
use Rattle.std.proofs.lemmas.List.Elements.{All-head, All-tail, All-push, filter-append}
use Rattle.lk_base.specs.declared.endpoint.Endpoint.{Endpoint}
use Rattle.link_node.specs.Config.{GateValue}
use Rattle.link_lines.specs.Lines.{lines_of, is_passed, counting_in}
use Rattle.link_script.specs.declared.live_script.AppCommand.{AppCommand}
use Rattle.link_script.specs.declared.live_script.BlockCommand.{BlockCommand}
use Rattle.link_text.specs.declared.place.Place.{Place}
use Rattle.link_text.specs.HeadParts.{LacksGate, AreFull}
use Rattle.link_text.specs.Places.{IsAhead, counting_from}
use Rattle.link_script.specs.ReplayScript.{gate_line, gate_lines, to_line}
use Rattle.link_script.specs.LiveScript.{Command, app, block, IsTempo, IsLiveHead, IsCommand, IsLiveScript, IsLiveText, IsSomeLiveScript, IsLiveLineFault, apps_in, blocks_in, begins_command, command_line, commands_told, live_head_lines, live_version_line, setup_line}
use Rattle.link_text.specs.LiveParts.{HasBadCommand, HasCommands, IsLiveStart, TakesCommand, lines_told}
use Rattle.link_text.proofs.HeadLemmas.{gates_one, lacks_gate_as, first_differs, full_events}
use Rattle.link_text.proofs.FirstFaultLemmas as faults
use Rattle.link_text.proofs.FirstFaultLemmas.{IsCounted, BeginAlike, alike_first, line_fault}
use Rattle.link_text.proofs.ScriptLemmas.{some_first, full_alike, lacks_gate_alike}
use Rattle.link_text.proofs.LiveLineLemmas.{setup_one, command_one}

-- ---- how lines go on to a live script

-- the lines that count are those of a live script
pub record SaysLive (lines : List (List ℕ)) : Type 0 where
  pub mpb : ℤ
  pub sync : Bool
  pub gates : List GateValue
  pub commands : List Command
  pub head : IsLiveHead mpb gates
  pub each : All IsCommand commands
  pub lines_are : lines ≡ live_head_lines mpb sync gates ++ map command_line commands

live_counted : IsCounted IsSomeLiveScript SaysLive
live_counted = record {
  says = λ lines (mpb, sync, gates, commands, s). record { mpb = mpb; sync = sync; gates = gates; commands = commands; head = s.head; each = s.each; lines_are = s.said };
  is_text = λ lines s. (s.mpb, s.sync, s.gates, s.commands, record { head = s.head; each = s.each; said = s.lines_are });
}

abbrev pub Starts : List (List ℕ) → Type 0
Starts said = faults.Starts SaysLive said

pub fault_here : (text : List ℕ) (place : Place) (said : List (List ℕ)) → length text ≤ 2 ^ 32 - 2 → (ahead : IsAhead text place)
    → counting_in (lines_of text) ≡ said ++ counting_from text place.at → Starts said
    → ((more : List (List ℕ)) → BeginAlike (counting_from text place.at) more → SaysLive (said ++ more) → ⊥)
    → IsLiveLineFault text place.number
fault_here text place said short ahead is starts none =
    line_fault IsSomeLiveScript SaysLive text place said live_counted short ahead is starts none

-- ---- how it begins

pub live_open : (mpb : ℤ) (sync : Bool) (gates : List GateValue)
    → live_head_lines mpb sync gates ≡ live_version_line ∷ setup_line mpb sync ∷ flat_map gate_lines gates
unfolding live_head_lines
live_open mpb sync gates = refl

starts_commands : (mpb : ℤ) (sync : Bool) (gates : List GateValue) (commands : List Command) → IsLiveHead mpb gates → All IsCommand commands
    → Starts (live_head_lines mpb sync gates ++ map command_line commands)
starts_commands mpb sync gates commands head each = record {
  more = [];
  goes = record {
    mpb = mpb;
    sync = sync;
    gates = gates;
    commands = commands;
    head = head;
    each = each;
    lines_are = append-nil (live_head_lines mpb sync gates ++ map command_line commands);
  };
  counts = refl;
}

-- ---- what a live script can't go on with

pub no_version : (lines : List (List ℕ)) → ((rest : List (List ℕ)) → lines ≡ live_version_line ∷ rest → ⊥)
    → (more : List (List ℕ)) → BeginAlike lines more → SaysLive more → ⊥
no_version lines none more alike goes =
    let first = goes.lines_are ∙ ap (λ (ls : List (List ℕ)). ls ++ map command_line goes.commands) (live_open goes.mpb goes.sync goes.gates) in
    let there = alike_first lines more live_version_line (setup_line goes.mpb goes.sync ∷ (flat_map gate_lines goes.gates ++ map command_line goes.commands)) alike first in
    none there.0 there.1

pub no_setup : (lines : List (List ℕ)) → ((mpb : ℤ) (sync : Bool) (rest : List (List ℕ)) → IsTempo mpb → lines ≡ setup_line mpb sync ∷ rest → ⊥)
    → (more : List (List ℕ)) → BeginAlike lines more → SaysLive ((live_version_line ∷ []) ++ more) → ⊥
no_setup lines none more alike goes =
    let both = goes.lines_are ∙ ap (λ (ls : List (List ℕ)). ls ++ map command_line goes.commands) (live_open goes.mpb goes.sync goes.gates) in
    let first : more ≡ setup_line goes.mpb goes.sync ∷ (flat_map gate_lines goes.gates ++ map command_line goes.commands) = cc both in
    let there = alike_first lines more (setup_line goes.mpb goes.sync) (flat_map gate_lines goes.gates ++ map command_line goes.commands) alike first in
    none goes.mpb goes.sync there.0 goes.head.tempo there.1

pub no_gate : (lines : List (List ℕ)) (mpb : ℤ) (sync : Bool) → LacksGate 0 lines
    → (more : List (List ℕ)) → BeginAlike lines more → SaysLive ((live_version_line ∷ setup_line mpb sync ∷ []) ++ more) → ⊥
no_gate lines mpb sync (inr full) more alike goes = omega arith
no_gate lines mpb sync (inl none) more alike goes =
    let all = goes.lines_are ∙ ap (λ (ls : List (List ℕ)). ls ++ map command_line goes.commands) (live_open goes.mpb goes.sync goes.gates) in
    let gates : more ≡ flat_map gate_lines goes.gates ++ map command_line goes.commands = cc all in
    let first = some_first goes.gates (map command_line goes.commands) goes.head.some_gate goes.head.each in
    let there = alike_first lines more (gate_line first.0) first.1 alike (gates ∙ first.3) in
    none first.0 there.0 first.2 there.1

-- ---- lines of commands are no lines of a head

command_no_gate : (command : Command) (e : Endpoint) → command_line command ≡ gate_line e → ⊥
command_no_gate (app command) e same = first_differs (command_line (app command)) (gate_line e) 97 103 refl refl (omega arith) same
command_no_gate (block command) e same = first_differs (command_line (block command)) (gate_line e) 98 103 refl refl (omega arith) same

command_no_to : (command : Command) (e : Endpoint) → command_line command ≡ to_line e → ⊥
command_no_to (app command) e same = first_differs (command_line (app command)) (to_line e) 97 116 refl refl (omega arith) same
command_no_to (block command) e same = first_differs (command_line (block command)) (to_line e) 98 116 refl refl (omega arith) same

commands_no_gate : (commands : List Command) (e : Endpoint) (more : List (List ℕ)) → map command_line commands ≡ gate_line e ∷ more → ⊥
commands_no_gate [] e more same = cc
commands_no_gate (command ∷ commands) e more same = command_no_gate command e (cc same)

pub commands_no_to : (commands : List Command) (e : Endpoint) (more : List (List ℕ)) → map command_line commands ≡ to_line e ∷ more → ⊥
commands_no_to [] e more same = cc
commands_no_to (command ∷ commands) e more same = command_no_to command e (cc same)

pub commands_lack : (count : ℕ) (commands : List Command) → LacksGate count (map command_line commands)
commands_lack count commands = inl (λ e more range same. commands_no_gate commands e more same)

-- ---- a head is read in one way

-- two heads and what is behind them
pub record IsOneHead (m n : ℤ) (s t : Bool) (gs hs : List GateValue) (xs ys : List (List ℕ)) : Type 0 where
  pub tempo : m ≡ n
  pub sync : s ≡ t
  pub gates : gs ≡ hs
  pub rest : xs ≡ ys

pub head_one : (m n : ℤ) (s t : Bool) (gs hs : List GateValue) (xs ys : List (List ℕ)) → IsLiveHead m gs → IsLiveHead n hs
    → AreFull gs xs → AreFull hs ys → LacksGate (length gs) xs → LacksGate (length hs) ys
    → live_head_lines m s gs ++ xs ≡ live_head_lines n t hs ++ ys → IsOneHead m n s t gs hs xs ys
head_one m n s t gs hs xs ys is_g is_h full_x full_y lacks_x lacks_y same =
    let lines = sym (ap (λ (ls : List (List ℕ)). ls ++ xs) (live_open m s gs)) ∙ same ∙ ap (λ (ls : List (List ℕ)). ls ++ ys) (live_open n t hs) in
    let setups : setup_line m s ≡ setup_line n t = cc lines in
    let gates : flat_map gate_lines gs ++ xs ≡ flat_map gate_lines hs ++ ys = cc lines in
    let setup = setup_one m n s t is_g.tempo is_h.tempo setups in
    let one = gates_one 0 gs hs xs ys is_g.each is_h.each (omega (arith, is_g.few_gates)) (omega (arith, is_h.few_gates)) full_x full_y
    (lacks_gate_as (length gs) (0 + length gs) xs (omega arith) lacks_x) (lacks_gate_as (length hs) (0 + length hs) ys (omega arith) lacks_y) gates in
    record { tempo = setup.0; sync = setup.1; gates = one.0; rest = one.1 }

-- a line that says no command isn't among those of commands
command_among : (cs ds : List Command) (x : List ℕ) (ys : List (List ℕ)) → map command_line cs ++ x ∷ ys ≡ map command_line ds → All IsCommand ds
    → ((command : Command) → IsCommand command → x ≡ command_line command → ⊥) → ⊥
command_among [] [] x ys same each none = cc
command_among [] (d ∷ ds) x ys same each none = none d (All-head IsCommand d ds each) (cc same)
command_among (c ∷ cs) [] x ys same each none = cc
command_among (c ∷ cs) (d ∷ ds) x ys same each none = command_among cs ds x ys (cc same) (All-tail IsCommand d ds each) none

-- only the first line behind the gates counts
full_behind : (gs : List GateValue) (said : List (List ℕ)) (x : List ℕ) (xs ys : List (List ℕ)) → AreFull gs (said ++ x ∷ xs) → AreFull gs (said ++ x ∷ ys)
full_behind gs [] x xs ys full = full_alike gs x xs ys full
full_behind gs (l ∷ said) x xs ys full = full_alike gs l (said ++ x ∷ xs) (said ++ x ∷ ys) full

lacks_behind : (count : ℕ) (said : List (List ℕ)) (x : List ℕ) (xs ys : List (List ℕ)) → LacksGate count (said ++ x ∷ xs) → LacksGate count (said ++ x ∷ ys)
lacks_behind count [] x xs ys lacks = lacks_gate_alike count x xs ys lacks
lacks_behind count (l ∷ said) x xs ys lacks = lacks_gate_alike count l (said ++ x ∷ xs) (said ++ x ∷ ys) lacks

-- behind commands, no line that says none
no_command : (m : ℤ) (s : Bool) (gs : List GateValue) (cs : List Command) (lines : List (List ℕ)) (x : List ℕ) (xs : List (List ℕ)) → IsLiveHead m gs
    → AreFull gs (map command_line cs ++ lines) → LacksGate (length gs) (map command_line cs ++ lines) → lines ≡ x ∷ xs
    → ((command : Command) → IsCommand command → x ≡ command_line command → ⊥)
    → (more : List (List ℕ)) → BeginAlike lines more → SaysLive ((live_head_lines m s gs ++ map command_line cs) ++ more) → ⊥
no_command m s gs cs lines x xs is full lacks there none more (inl (nothing, nor)) goes = differ (sym nothing ∙ there)
  where
    differ : [] ≡ x ∷ xs → ⊥
    differ h = cc
no_command m s gs cs lines x xs is full lacks there none more (inr (y, zs, ys, first, second)) goes =
    let one : y ≡ x = cc (first, there) in
    let more_is : more ≡ x ∷ ys = second ∙ ap (λ (l : List ℕ). l ∷ ys) one in
    let rest = map command_line goes.commands in
    let said = map command_line cs in
    let same : live_head_lines m s gs ++ (said ++ x ∷ ys) ≡ live_head_lines goes.mpb goes.sync goes.gates ++ rest
    = sym (append_assoc (live_head_lines m s gs) said (x ∷ ys)) ∙ ap (λ (ls : List (List ℕ)). (live_head_lines m s gs ++ said) ++ ls) (sym more_is) ∙ goes.lines_are in
    let heads = head_one m goes.mpb s goes.sync gs goes.gates (said ++ x ∷ ys) rest is goes.head
    (full_behind gs said x xs ys (subst (λ (ls : List (List ℕ)). AreFull gs (said ++ ls)) there full))
    (full_events goes.gates rest (commands_no_to goes.commands))
    (lacks_behind (length gs) said x xs ys (subst (λ (ls : List (List ℕ)). LacksGate (length gs) (said ++ ls)) there lacks))
    (commands_lack (length goes.gates) goes.commands) same in
    command_among cs goes.commands x ys heads.rest goes.each none

-- ---- the whole script

pub start_said : (text : List ℕ) (mpb : ℤ) (sync : Bool) (gates : List GateValue) (place : Place) (first second third : List (List ℕ)) → IsLiveHead mpb gates
    → IsAhead text place → counting_in (lines_of text) ≡ first → first ≡ live_version_line ∷ second → second ≡ setup_line mpb sync ∷ third
    → third ≡ flat_map gate_lines gates ++ counting_from text place.at → AreFull gates (counting_from text place.at)
    → LacksGate (length gates) (counting_from text place.at) → IsLiveStart text mpb sync gates place
start_said text mpb sync gates place first second third head ahead e0 e1 e2 e3 full lacks = record {
  head = head;
  ahead = ahead;
  said = e0 ∙ e1 ∙ ap (λ (ls : List (List ℕ)). live_version_line ∷ ls) (e2 ∙ ap (λ (ls : List (List ℕ)). setup_line mpb sync ∷ ls) e3)
      ∙ sym (ap (λ (ls : List (List ℕ)). ls ++ counting_from text place.at) (live_open mpb sync gates));
  full = full;
  lacks = lacks;
}

pub bad_command : (text : List ℕ) (mpb : ℤ) (sync : Bool) (gates : List GateValue) (place bad : Place) → length text ≤ 2 ^ 32 - 2
    → IsLiveStart text mpb sync gates place → HasBadCommand text (counting_from text place.at) bad → IsLiveLineFault text bad.number
bad_command text mpb sync gates place bad short start has =
    let said = map command_line has.has.commands in
    fault_here text bad (live_head_lines mpb sync gates ++ said) short has.ahead
    (start.said ∙ ap (λ (ls : List (List ℕ)). live_head_lines mpb sync gates ++ ls) has.has.said
    ∙ sym (append_assoc (live_head_lines mpb sync gates) said (counting_from text bad.at)))
    (starts_commands mpb sync gates has.has.commands start.head has.has.each)
    (no_command mpb sync gates has.has.commands (counting_from text bad.at) has.line (counting_from text has.next.at) start.head
    (subst (λ (ls : List (List ℕ)). AreFull gates ls) has.has.said start.full)
    (subst (λ (ls : List (List ℕ)). LacksGate (length gates) ls) has.has.said start.lacks)
    has.there.counting has.fault)

pub whole : (text : List ℕ) (mpb : ℤ) (sync : Bool) (gates : List GateValue) (place : Place) (apps : List AppCommand) (blocks : List BlockCommand)
    → IsLiveStart text mpb sync gates place → HasCommands (counting_from text place.at) apps blocks []
    → IsLiveText text mpb sync gates apps blocks
whole text mpb sync gates place apps blocks start has = record {
  commands = has.commands;
  apps_are = sym has.apps_are;
  blocks_are = sym has.blocks_are;
  script = record {
    head = start.head;
    each = has.each;
    said = start.said ∙ ap (λ (ls : List (List ℕ)). live_head_lines mpb sync gates ++ ls) (has.said ∙ append-nil (map command_line has.commands));
  };
}

-- ---- commands one by one

apps-append : (cs ds : List Command) → apps_in (cs ++ ds) ≡ apps_in cs ++ apps_in ds
apps-append [] ds = refl
apps-append (app c ∷ cs) ds = ap (λ (xs : List AppCommand). c ∷ xs) (apps-append cs ds)
apps-append (block c ∷ cs) ds = apps-append cs ds

blocks-append : (cs ds : List Command) → blocks_in (cs ++ ds) ≡ blocks_in cs ++ blocks_in ds
blocks-append [] ds = refl
blocks-append (app c ∷ cs) ds = blocks-append cs ds
blocks-append (block c ∷ cs) ds = ap (λ (xs : List BlockCommand). c ∷ xs) (blocks-append cs ds)

pub commands_more : (lines here rest : List (List ℕ)) (line : List ℕ) (apps new_apps : List AppCommand) (blocks new_blocks : List BlockCommand)
    → HasCommands lines apps blocks here → here ≡ line ∷ rest → TakesCommand line apps new_apps blocks new_blocks
    → HasCommands lines new_apps new_blocks rest
commands_more lines here rest line apps new_apps blocks new_blocks has is takes =
    let c = takes.command in
    record {
      commands = has.commands ++ c ∷ [];
      each = All-push IsCommand has.commands c has.each takes.range;
      said = has.said ∙ ap (λ (ls : List (List ℕ)). map command_line has.commands ++ ls) (is ∙ ap (λ (l : List ℕ). l ∷ rest) takes.said)
          ∙ sym (append_assoc (map command_line has.commands) (command_line c ∷ []) rest)
          ∙ ap (λ (ls : List (List ℕ)). ls ++ rest) (sym (map-append command_line has.commands (c ∷ [])));
      apps_are = takes.apps_are ∙ ap (λ (xs : List AppCommand). xs ++ apps_in (c ∷ [])) has.apps_are ∙ sym (apps-append has.commands (c ∷ []));
      blocks_are = takes.blocks_are ∙ ap (λ (xs : List BlockCommand). xs ++ blocks_in (c ∷ [])) has.blocks_are ∙ sym (blocks-append has.commands (c ∷ []));
    }

pub takes_none : (line : List ℕ) → ((command : AppCommand) → IsCommand (app command) → line ≡ command_line (app command) → ⊥)
    → ((command : BlockCommand) → IsCommand (block command) → line ≡ command_line (block command) → ⊥)
    → (command : Command) → IsCommand command → line ≡ command_line command → ⊥
takes_none line no_app no_block (app command) range said = no_app command range said
takes_none line no_app no_block (block command) range said = no_block command range said

-- ---- how many commands are told

pub command_begins : (command : Command) → begins_command (command_line command) ≡ true
command_begins (app command) = refl
command_begins (block command) = refl

pub told_first : (line : List ℕ) (rest : List (List ℕ)) → begins_command line ≡ true → lines_told (line ∷ rest) ≡ lines_told rest + 1
told_first line rest is = by_test (begins_command line) is
  where
    by_test : (t : Bool) → t ≡ true → length (if t then line ∷ filter begins_command rest else filter begins_command rest) ≡ lines_told rest + 1
    by_test true is = omega arith
    by_test false is = cc

told_little : (line : List ℕ) (xs ys : List (List ℕ)) → lines_told xs ≤ lines_told ys → lines_told (line ∷ xs) ≤ lines_told (line ∷ ys)
told_little line xs ys less = by_test (begins_command line)
  where
    by_test : (t : Bool) → length (if t then line ∷ filter begins_command xs else filter begins_command xs)
        ≤ length (if t then line ∷ filter begins_command ys else filter begins_command ys)
    by_test true = omega (arith, less)
    by_test false = less

told_more : (line : List ℕ) (rest : List (List ℕ)) → lines_told rest ≤ lines_told (line ∷ rest)
told_more line rest = by_test (begins_command line)
  where
    by_test : (t : Bool) → lines_told rest ≤ length (if t then line ∷ filter begins_command rest else filter begins_command rest)
    by_test true = omega arith
    by_test false = omega arith

-- those that count are among all
told_counting : (lines : List (List ℕ)) → lines_told (counting_in lines) ≤ lines_told lines
told_counting [] = omega arith
told_counting (line ∷ lines) = by_test (is_passed line) (told_counting lines)
  where
    by_test : (t : Bool) → lines_told (counting_in lines) ≤ lines_told lines
        → lines_told (if not t then line ∷ counting_in lines else counting_in lines) ≤ lines_told (line ∷ lines)
    by_test true less = omega (arith, less, told_more line lines)
    by_test false less = told_little line (counting_in lines) lines less

pub told_ahead : (text : List ℕ) (place : Place) → IsAhead text place → lines_told (counting_from text place.at) ≤ commands_told text
told_ahead text place ahead =
    let all : commands_told text ≡ length (filter begins_command ahead.before ++ filter begins_command (lines_of (drop place.at text)))
    = ap lines_told ahead.lines ∙ ap (λ (ls : List (List ℕ)). length ls) (filter-append begins_command ahead.before (lines_of (drop place.at text))) in
    omega (arith, all, length-append (filter begins_command ahead.before) (filter begins_command (lines_of (drop place.at text))), told_counting (lines_of (drop place.at text)))

-- where a command was taken, there is room for those that follow
pub room_next : (here rest : List (List ℕ)) (line : List ℕ) (apps new_apps : List AppCommand) (blocks new_blocks : List BlockCommand)
    → here ≡ line ∷ rest → TakesCommand line apps new_apps blocks new_blocks → lines_told here ≡ lines_told rest + 1
room_next here rest line apps new_apps blocks new_blocks is takes =
    ap lines_told is ∙ told_first line rest (ap begins_command takes.said ∙ command_begins takes.command)

-- ---- a text is one live script at most

commands_one : (cs ds : List Command) → All IsCommand cs → All IsCommand ds → map command_line cs ≡ map command_line ds → cs ≡ ds
commands_one [] [] each_c each_d same = refl
commands_one [] (d ∷ ds) each_c each_d same = cc
commands_one (c ∷ cs) [] each_c each_d same = cc
commands_one (c ∷ cs) (d ∷ ds) each_c each_d same =
    let first = command_one c d (All-head IsCommand c cs each_c) (All-head IsCommand d ds each_d) (cc same) in
    let rest = commands_one cs ds (All-tail IsCommand c cs each_c) (All-tail IsCommand d ds each_d) (cc same) in
    cc (first, rest)

pub one_script : (lines : List (List ℕ)) (m n : ℤ) (s t : Bool) (gs hs : List GateValue) (cs ds : List Command)
    → IsLiveScript lines m s gs cs → IsLiveScript lines n t hs ds → (m ≡ n) × (s ≡ t) × (gs ≡ hs) × (cs ≡ ds)
one_script lines m n s t gs hs cs ds p q =
    let one = head_one m n s t gs hs (map command_line cs) (map command_line ds) p.head q.head
    (full_events gs (map command_line cs) (commands_no_to cs)) (full_events hs (map command_line ds) (commands_no_to ds))
    (commands_lack (length gs) cs) (commands_lack (length hs) ds) (sym p.said ∙ q.said) in
    (one.tempo, one.sync, one.gates, commands_one cs ds p.each q.each one.rest)

pub one_text : (text : List ℕ) (m n : ℤ) (s t : Bool) (gs hs : List GateValue) (as_ bs : List AppCommand) (cs ds : List BlockCommand)
    → IsLiveText text m s gs as_ cs → IsLiveText text n t hs bs ds → (m ≡ n) × (s ≡ t) × (gs ≡ hs) × (as_ ≡ bs) × (cs ≡ ds)
one_text text m n s t gs hs as_ bs cs ds p q =
    let one = one_script (lines_of text) m n s t gs hs p.commands q.commands p.script q.script in
    (one.0, one.1, one.2, sym p.apps_are ∙ ap apps_in one.3 ∙ q.apps_are, sym p.blocks_are ∙ ap blocks_in one.3 ∙ q.blocks_are)
