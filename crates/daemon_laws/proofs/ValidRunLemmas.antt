-- A run on the network over a valid script is done, unless there is no memory, a count of failures rose, or an event found no room.
use Rattle.std.proofs.Common.{◌≡◌, ◌⊎◌, inl, inr, ◌++◌, ◌∷◌, ◌==◌, if◌then◌else◌, ◌<◌, ◌≤◌, length, Bool, true, false, List, [], ℕ, Option, Some, None, refl, sym, subst, ap, ◌∙◌, true≢false, arith}
use Rattle.std.specs.declared.alloc.Global.{Global}
use Rattle.std.specs.declared.string.String.{String}
use Rattle.lk_outside.specs.Faults.{Rose}
use Rattle.lk_outside.specs.Source.{Takes}
use Rattle.lk_outside.specs.Stream.{Stream}
use Rattle.lk_outside.specs.Talk.{TalkSeen}
use Rattle.link_text.specs.LiveHead.{IsHeadLineFault}
use Rattle.link_script.specs.LiveScript.{IsLiveLineFault, commands_told}
use Rattle.link_live.specs.Journal.{has_ended}
use Rattle.link_control.specs.ControlRun.{EndsTell}
use Rattle.link_control.specs.Lines.{onto_whole, whole_lines_of}
use Rattle.link_words.specs.ControlWords.{IsControl}
use Rattle.link_words.specs.LiveWords.{IsLive}
use Rattle.link_words.specs.declared.command_name.CommandName.TheVariants as name
use Rattle.link_commands.specs.declared.status.Grammar.{Grammar}
use Rattle.link_commands.specs.declared.status.Grammar.TheVariants as grammar
use Rattle.link_commands.specs.declared.status.Status.{Status}
use Rattle.link_commands.specs.declared.status.Status.TheVariants as status
use Rattle.link_daemon.specs.ControlEnds.{EndsControl}
use Rattle.link_daemon.specs.Ends.{control_seen, live_seen}
use Rattle.link_live_command.specs.LiveEnds.{EndsLive}
use Rattle.link_daemon.specs.AllSeen.{AllSeen}
use Rattle.link_live_command.specs.ScriptRead.{EndsHeadRead, EndsRead, EndsReadOf, ReadsScriptFault, ReadsTooMany}
use Rattle.daemon_laws.specs.ValidInput.{IsValidHead, IsValidLive, IsValidTalk, CompletesControl, CompletesLive}
use Rattle.daemon_laws.proofs.CauseLemmas.{told_is_read, within_and_over}
use Rattle.daemon_laws.proofs.ControlCourseLemmas as control
use Rattle.daemon_laws.proofs.ControlCourseLemmas.{SendsMany}
use Rattle.daemon_laws.proofs.CourseLemmas.{CourseLaws, audio_met, events_met, port_met}
use Rattle.link_daemon.proofs.StatusLemmas.{as_named}

-- ---- a script that is read

module _ (wanted : Grammar) (FaultsAt : List ℕ → ℕ → Type 0) (input input' : Stream) (bytes : List ℕ) (told : input.told ≡ Some bytes)
    (within : length bytes ≤ 16_777_216) (few : commands_told bytes ≤ 4_096) (none : (line : ℕ) → FaultsAt bytes line → ⊥)
    (reads : Rose input.faults input'.faults → ⊥) where
  many_are_few : ReadsTooMany input input' → ⊥
  many_are_few many =
      let same : bytes ≡ many.bytes = told_is_read 16_777_216 input input' bytes many.bytes told many.read in
      let count : commands_told bytes ≡ commands_told many.bytes = ap commands_told same in
      omega (arith, count, few, many.many)

  no_fault : (line : ℕ) → ReadsScriptFault FaultsAt input input' line → ⊥
  no_fault line faulty =
      let same : bytes ≡ faulty.bytes = told_is_read 16_777_216 input input' bytes faulty.bytes told faulty.read in
      none line (subst (λ (text : List ℕ). FaultsAt text line) (sym same) faulty.fault)

  -- where no script was read there was no memory
  unread_ends : (end : Status) → EndsReadOf wanted FaultsAt input input' end → end ≡ status.Memory
  unread_ends status.Memory ends = refl
  unread_ends status.Input (rose, taken) = absurd (reads rose)
  unread_ends (status.TooLong limit) (same_limit, over, quiet) =
      absurd (within_and_over 16_777_216 bytes input input'.told told within over)
  unread_ends (status.TooMany limit) (same_limit, many) = absurd (many_are_few many)
  unread_ends (status.Script g line reason) (same_grammar, faulty) = absurd (no_fault line faulty)
  unread_ends other never = absurd never

-- ---- a live run

module _ (laws : CourseLaws) (words : List (String Global)) (seed : ℕ) (input input' : Stream) (before after : AllSeen) (live : IsLive words)
    (valid : IsValidLive input) (fits : has_ended after.report.events ≡ true) (reads : Rose input.faults input'.faults → ⊥)
    (posts : Rose before.port.faults after.port.faults → ⊥)
    (plays : Rose before.audio.faults after.audio.faults → ⊥)
    (writes : Rose before.out.faults after.out.faults → ⊥) where
  no_live : (end : Status) → EndsRead input input' end → end ≡ status.Memory
  no_live =
      unread_ends grammar.LiveScript IsLiveLineFault input input' valid.bytes valid.told valid.within valid.few
      (λ line fault. fault.none valid.script) reads

  live_ends : (end : Status) → EndsLive words seed input input' (live_seen before) (live_seen after) end → (end ≡ status.Done) ⊎ (end ≡ status.Memory)
  live_ends status.Done ends = inl refl
  live_ends status.Memory ends = inr refl
  live_ends status.Words (other, unread, not_begun) = absurd (other live)
  live_ends status.Input (live', ends, not_begun) = inr (no_live status.Input ends)
  live_ends (status.TooLong limit) (live', ends, not_begun) = inr (no_live (status.TooLong limit) ends)
  live_ends (status.TooMany limit) (live', ends, not_begun) = inr (no_live (status.TooMany limit) ends)
  live_ends (status.Script g line reason) (live', ends, not_begun) = inr (no_live (status.Script g line reason) ends)
  live_ends status.Port runs = absurd (posts (port_met laws runs.ends.run))
  live_ends status.Audio runs = absurd (plays (audio_met laws runs.ends.run).1)
  live_ends status.Events runs = absurd (true≢false (sym fits ∙ (events_met laws runs.ends.run).2))
  live_ends status.Sink runs = absurd (writes runs.ends.written.rose)
  live_ends other runs = absurd runs.ends

pub completes_live : CourseLaws → CompletesLive
completes_live laws words seed before after end live valid fits reads posts plays writes ends =
    live_ends laws words seed before.input after.input before after live valid fits reads posts plays writes end
    (as_named words name.Live seed before after end live.0 ends).0

-- ---- a run under control

-- a byte before them leaves as many lines
onto_length : (b : ℕ) (lines : List (List ℕ)) → length (onto_whole b lines) ≡ length lines
onto_length b [] = refl
onto_length b (line ∷ lines) = refl

by_test : (feeds : Bool) (b : ℕ) (xs ys : List (List ℕ)) → length xs ≤ length ys
    → length (if feeds then [] ∷ xs else onto_whole b xs) ≤ length (if feeds then [] ∷ ys else onto_whole b ys)
by_test true b xs ys no_fewer = omega (arith, no_fewer)
by_test false b xs ys no_fewer = omega (arith, onto_length b xs, onto_length b ys, no_fewer)

-- longer bytes have no fewer lines
lines_grow : (bytes more : List ℕ) → length (whole_lines_of bytes) ≤ length (whole_lines_of (bytes ++ more))
unfolding whole_lines_of
lines_grow [] more = omega arith
lines_grow (b ∷ bytes) more = by_test (b == 10) b (whole_lines_of bytes) (whole_lines_of (bytes ++ more)) (lines_grow bytes more)

-- of bytes with few lines none are taken with many
few_lines : (told bytes : List ℕ) (left : Option (List ℕ)) → length (whole_lines_of told) ≤ 4_096 → Takes (Some told) bytes left
    → 4_096 < length (whole_lines_of bytes) → ⊥
few_lines told bytes None few takes many = cc
few_lines told bytes (Some rest) few takes many =
    let all : Some told ≡ Some (bytes ++ rest) = takes in
    let same : told ≡ bytes ++ rest = cc in
    let count : length (whole_lines_of told) ≡ length (whole_lines_of (bytes ++ rest)) =
    ap (λ (text : List ℕ). length (whole_lines_of text)) same in
    omega (arith, count, few, many, lines_grow bytes rest)

valid_and_many : (talk : TalkSeen) (left : Option (List ℕ)) → IsValidTalk talk → SendsMany talk.left left → ⊥
valid_and_many talk left valid many =
    few_lines valid.bytes many.bytes left valid.few
    (let P : Option (List ℕ) → Type 0 = λ before. Takes before many.bytes left in subst P valid.told many.taken)
    many.many

module _ (laws : EndsTell) (words : List (String Global)) (seed : ℕ) (input input' : Stream) (before after : AllSeen) (taken : IsControl words)
    (valid : IsValidHead input) (valid_talk : IsValidTalk before.talk) (fits : has_ended after.report.events ≡ true)
    (reads : Rose input.faults input'.faults → ⊥) (posts : Rose before.port.faults after.port.faults → ⊥)
    (talks : Rose before.talk.faults after.talk.faults → ⊥) (writes : Rose before.out.faults after.out.faults → ⊥) where
  no_head : (end : Status) → EndsHeadRead input input' end → end ≡ status.Memory
  no_head =
      unread_ends grammar.LiveHead IsHeadLineFault input input' valid.bytes valid.told valid.within valid.few
      (λ line fault. fault.none valid.head) reads

  control_ends : (end : Status) → EndsControl words seed input input' (control_seen before) (control_seen after) end
      → (end ≡ status.Done) ⊎ (end ≡ status.Memory)
  control_ends status.Done ends = inl refl
  control_ends status.Memory ends = inr refl
  control_ends status.Words (other, unread, not_begun) = absurd (other taken)
  control_ends status.Input (taken', ends, not_begun) = inr (no_head status.Input ends)
  control_ends (status.TooLong limit) (taken', ends, not_begun) = inr (no_head (status.TooLong limit) ends)
  control_ends (status.TooMany limit) (taken', ends, not_begun) = inr (no_head (status.TooMany limit) ends)
  control_ends (status.Script g line reason) (taken', ends, not_begun) = inr (no_head (status.Script g line reason) ends)
  control_ends status.Port runs = absurd (posts (control.port_met laws runs.ends.run))
  control_ends status.Talk runs = absurd (talks (control.talk_met laws runs.ends.run).1)
  control_ends status.Events runs = absurd (true≢false (sym fits ∙ (control.events_met laws runs.ends.run).2))
  control_ends status.Lines runs = absurd (valid_and_many before.talk after.talk.left valid_talk (control.many_met laws runs.ends.run).3)
  control_ends status.Sink runs = absurd (writes runs.ends.written.rose)
  control_ends other runs = absurd runs.ends

pub completes_control : EndsTell → CompletesControl
completes_control laws words seed before after end taken valid valid_talk fits reads posts talks writes ends =
    control_ends laws words seed before.input after.input before after taken valid valid_talk fits reads posts talks writes end
    (as_named words name.Control seed before after end taken.begins ends).0
