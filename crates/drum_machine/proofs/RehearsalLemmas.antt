-- Blocks of a rehearsal, one after another.
use Rattle.std.proofs.Common.{◌≡◌, ℕ, ◌+◌, ◌*◌, ℤ, pos, Bool, true, false, List, [], ◌∷◌, ◌++◌, length, Option, Some, None, refl, ap, sym, subst, ◌∙◌, arith, append_assoc, append-nil, length-append}
use Rattle.std.specs.Bool.{OnTrue}
use Rattle.audio_handoff.specs.Cell.{Pair}
use Rattle.client_state.specs.Commit.{commit_between}
use Rattle.client_state.specs.Words.{state_of_words}
use Rattle.client_state.specs.declared.commit.Commit.{Commit}
use Rattle.client_state.specs.declared.state.State.{State}
use Rattle.link_shared.specs.Audio.{AudioView, HasReadAudio, after_making}
use Rattle.lk_outside.specs.Sink.{Appends}
use Rattle.step_sequencer.specs.declared.pattern.Pattern.{Pattern}
use Rattle.drum_machine.specs.Callback.{changed_by}
use Rattle.drum_machine.specs.declared.callback.Change.{Change}
use Rattle.drum_machine.specs.Rehearsal.{AreTold, BlockReads, HasEdited, IsRehearsed, begins_at, blocks_text_of, change_with, commits_of, commits_with, made_after, shown_with, tempo_after}
use Rattle.drum_machine.specs.Score.{block_text_of, done_line_of}
use Rattle.drum_machine.specs.Written.{shown_of}
use Rattle.drum_machine.proofs.PlayerLemmas.{shown_by}
use Rattle.drum_machine.proofs.TextLemmas.{appends_more, none_appended}

-- ---- one block more

same_block : (first last : ℕ) → last ≡ first + 0 → first ≡ last
same_block first last e = omega (arith, e)

next_block : (first last n : ℕ) → last ≡ first + (n + 1) → last ≡ first + 1 + n
next_block first last n e = omega (arith, e)

module _ (r : BlockReads) where
  pub made-snoc : (made : List Commit) (first last : ℕ) (xs : List BlockReads) → last ≡ first + length xs
      → made_after made first (xs ++ r ∷ []) ≡ made_after made first xs ++ commits_with last (made_after made first xs) r.edit
  unfolding made_after
  made-snoc made first last [] e = ap (λ (n : ℕ). made ++ commits_with n made r.edit) (same_block first last e)
  made-snoc made first last (x ∷ xs) e = made-snoc (made ++ commits_with first made x.edit) (first + 1) last xs (next_block first last (length xs) (e ∙ omega arith))

  pub tempo-snoc : (told : ℤ) (made : List Commit) (first last : ℕ) (xs : List BlockReads) → last ≡ first + length xs
      → tempo_after told made first (xs ++ r ∷ []) ≡ (shown_with last (made_after made first xs) r).timeline.mpb
  unfolding made_after tempo_after
  tempo-snoc told made first last [] e = ap (λ (n : ℕ). (shown_with n made r).timeline.mpb) (same_block first last e)
  tempo-snoc told made first last (x ∷ xs) e =
      tempo-snoc (shown_with first made x).timeline.mpb (made ++ commits_with first made x.edit) (first + 1) last xs (next_block first last (length xs) (e ∙ omega arith))

  pub text-snoc : (pattern : Pattern) (told : ℤ) (made : List Commit) (first last : ℕ) (xs : List BlockReads) → last ≡ first + length xs
      → blocks_text_of pattern told made first (xs ++ r ∷ [])
      ≡ blocks_text_of pattern told made first xs
      ++ block_text_of (tempo_after told made first xs) pattern (shown_with last (made_after made first xs) r) (pos 1_000_000) (last * 960)
  unfolding made_after tempo_after blocks_text_of
  text-snoc pattern told made first last [] e =
      append-nil (block_text_of told pattern (shown_with first made r) (pos 1_000_000) (first * 960))
      ∙ ap (λ (n : ℕ). block_text_of told pattern (shown_with n made r) (pos 1_000_000) (n * 960)) (same_block first last e)
  text-snoc pattern told made first last (x ∷ xs) e =
      let here = block_text_of told pattern (shown_with first made x) (pos 1_000_000) (first * 960) in
      let told' : ℤ = (shown_with first made x).timeline.mpb in
      let made' : List Commit = made ++ commits_with first made x.edit in
      ap (λ l. here ++ l) (text-snoc pattern told' made' (first + 1) last xs (next_block first last (length xs) (e ∙ omega arith)))
      ∙ sym (append_assoc here (blocks_text_of pattern told' made' (first + 1) xs)
      (block_text_of (tempo_after told' made' (first + 1) xs) pattern (shown_with last (made_after made' (first + 1) xs) r) (pos 1_000_000) (last * 960)))

-- ---- a change

pub edited_none : (block : ℕ) (pass : AudioView) → change_with block ≡ None → HasEdited block pass pass
edited_none block pass none =
    let pair : Pair = (0, []) in
    record {
      pair = pair;
      made = sym (append-nil pass.made) ∙ ap (λ (o : Option Change). pass.made ++ commits_of o (begins_at block) pass.made pair) (sym none);
    }

-- `stored` is the moment as it is stored
pub edited_one : (block : ℕ) (change : Change) (at stored : ℤ) (before pass after : AudioView) (number : ℕ) (state shown : State)
    → change_with block ≡ Some change → at ≡ begins_at block → stored ≡ at → HasReadAudio before pass number state shown
    → after ≡ after_making pass (commit_between state shown (changed_by change stored shown) stored) → HasEdited block before after
edited_one block change at stored before pass after number state shown due now is read edited =
    let pair : Pair = (number, read.row) in
    let commit : Commit =
    commit_between (state_of_words read.row) (shown_of before.made pair) (changed_by change (begins_at block) (shown_of before.made pair)) (begins_at block) in
    let committed : commit_between state shown (changed_by change stored shown) stored ≡ commit =
    ap (λ (n : ℤ). commit_between state shown (changed_by change n shown) n) (is ∙ now)
    ∙ ap (λ (s : State). commit_between s shown (changed_by change (begins_at block) shown) (begins_at block)) read.state_is
    ∙ ap (λ (s : State). commit_between (state_of_words read.row) s (changed_by change (begins_at block) s) (begins_at block)) (shown_by before pass number state shown read) in
    record {
      pair = pair;
      made =
          ap (λ (v : AudioView). v.made) edited
          ∙ ap (λ (c : Commit). pass.made ++ c ∷ []) committed
          ∙ ap (λ (l : List Commit). l ++ commit ∷ []) read.commits_stay
          ∙ ap (λ (o : Option Change). before.made ++ commits_of o (begins_at block) before.made pair) (sym due);
    }

-- ---- the loop

-- so many blocks were told, by these reads: what was made, the tempo told last, and the text
pub record IsRehearsing (block : ℕ) (pattern : Pattern) (pass : AudioView) (mpb : ℤ) (out now : Option (List ℕ)) : Type 0 where
  reads : List BlockReads
  each : length reads ≡ block
  made : pass.made ≡ made_after [] 0 reads
  tempo : mpb ≡ tempo_after (pos 0) [] 0 reads
  told : Appends out (blocks_text_of pattern (pos 0) [] 0 reads) now

pub rehearsed_none : (pattern : Pattern) (pass : AudioView) (mpb : ℤ) (out : Option (List ℕ)) → pass.made ≡ [] → mpb ≡ pos 0 → IsRehearsing 0 pattern pass mpb out out
unfolding made_after tempo_after blocks_text_of
rehearsed_none pattern pass mpb out none first = record { reads = []; each = refl; made = none; tempo = first; told = none_appended out }

pub rehearsed_more : (block first : ℕ) (pattern given : Pattern) (origin told told_then : ℤ) (pass edited after : AudioView) (number : ℕ) (state shown : State) (out now then : Option (List ℕ))
    → first ≡ block * 960 → given ≡ pattern → origin ≡ pos 1_000_000
    → IsRehearsing block pattern pass told out now → HasEdited block pass edited → HasReadAudio edited after number state shown
    → Appends now (block_text_of told given shown origin first) then → told_then ≡ shown.timeline.mpb
    → IsRehearsing (block + 1) pattern after told_then out then
rehearsed_more block first pattern given origin told told_then pass edited after number state shown out now then first_is same origin_is past edit read text tempo_is =
    let xs : List BlockReads = past.reads in
    let made : List Commit = made_after [] 0 xs in
    let r : BlockReads = record { edit = edit.pair; callback = (number, read.row) } in
    let last : block ≡ 0 + length xs = omega (arith, past.each) in
    let made_is : edited.made ≡ made ++ commits_with block made edit.pair = edit.made ∙ ap (λ (l : List Commit). l ++ commits_with block l edit.pair) past.made in
    let shown_is : shown ≡ shown_with block made r =
    shown_by edited after number state shown read ∙ ap (λ (l : List Commit). shown_of l (number, read.row)) made_is in
    let text_is : block_text_of told given shown origin first ≡ block_text_of (tempo_after (pos 0) [] 0 xs) pattern (shown_with block made r) (pos 1_000_000) (block * 960) =
    ap (λ (t : ℤ). block_text_of t given shown origin first) past.tempo
    ∙ ap (λ (p : Pattern). block_text_of (tempo_after (pos 0) [] 0 xs) p shown origin first) same
    ∙ ap (λ (s : State). block_text_of (tempo_after (pos 0) [] 0 xs) pattern s origin first) shown_is
    ∙ ap (λ (o : ℤ). block_text_of (tempo_after (pos 0) [] 0 xs) pattern (shown_with block made r) o first) origin_is
    ∙ ap (λ (n : ℕ). block_text_of (tempo_after (pos 0) [] 0 xs) pattern (shown_with block made r) (pos 1_000_000) n) first_is in
    record {
      reads = xs ++ r ∷ [];
      each = length-append xs (r ∷ []) ∙ ap (λ (n : ℕ). n + 1) past.each;
      made = read.commits_stay ∙ made_is ∙ sym (made-snoc r [] 0 block xs last);
      tempo = tempo_is ∙ ap (λ (s : State). s.timeline.mpb) shown_is ∙ sym (tempo-snoc r (pos 0) [] 0 block xs last);
      told = appends_more out now then _ _ _ (sym (text-snoc r pattern (pos 0) [] 0 block xs last)) past.told (subst (λ bytes. Appends now bytes then) text_is text);
    }

pub are_told : (block : ℕ) (pattern : Pattern) (pass : AudioView) (mpb : ℤ) (out now : Option (List ℕ)) → block ≡ 373 → IsRehearsing block pattern pass mpb out now
    → AreTold 373 pattern out now
are_told block pattern pass mpb out now all past = record { reads = past.reads; each = past.each ∙ all; told = past.told }

pub is_rehearsed : (all : Bool) (blocks : ℕ) (pattern : Pattern) (steps events : ℕ) (out now then : Option (List ℕ)) → AreTold blocks pattern out now
    → OnTrue all (Appends now (done_line_of steps events) then) → OnTrue all (IsRehearsed blocks pattern out then)
is_rehearsed false blocks pattern steps events out now then told done = tt
is_rehearsed true blocks pattern steps events out now then told done = record {
  reads = told.reads;
  each = told.each;
  steps = steps;
  events = events;
  told = appends_more out now then _ _ _ refl told.told done;
}
