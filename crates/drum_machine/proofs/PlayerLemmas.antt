-- What a pass has played goes on with a block, whose MIDI events are messages that have bytes, and begins with a start.
use Rattle.std.proofs.Common.{◌≡◌, ℕ, ◌+◌, ◌≤◌, ℤ, Bool, true, false, if◌then◌else◌, List, [], ◌∷◌, ◌++◌, length, All, Option, Some, None, refl, ap, sym, subst, ◌∙◌, append_assoc, append-nil, length-append, arith, to_z, of_z, w64}
use Rattle.std.proofs.lemmas.Int.{to_z-of_z}
use Rattle.std.proofs.lemmas.List.Elements.{All-same}
use Rattle.audio_handoff.specs.Cell.{NumbersNeverFall, Pair}
use Rattle.client_state.specs.Commit.{commit_between}
use Rattle.client_state.specs.Shown.{shown_over}
use Rattle.client_state.specs.Words.{state_of_words}
use Rattle.client_state.specs.declared.commit.Commit.{Commit}
use Rattle.client_state.specs.declared.state.State.{State}
use Rattle.lk_base.specs.Ranges.{IsMoment}
use Rattle.lk_base.specs.declared.block.Block.{Block}
use Rattle.lk_outside.specs.Audio.{AudioContents, GivesBlock}
use Rattle.lk_outside.specs.Contents.{BothTell}
use Rattle.link_live.proofs.AskLemmas.{moment_fits}
use Rattle.link_midi.specs.Events.{Part, all_events_of, events_from, span}
use Rattle.link_midi.specs.Messages.{IsMessage}
use Rattle.link_midi.specs.declared.message.MidiEvent.{MidiEvent}
use Rattle.link_shared.specs.Audio.{AudioView, HasReadAudio, after_making, last_of}
use Rattle.drum_machine.specs.Callback.{changed_by}
use Rattle.drum_machine.specs.declared.callback.Change.TheVariants as change
use Rattle.drum_machine.specs.Player.{BeginsAt, HasAsked, HasBegun, HasGiven, HasPlayed, HasStarted, start_from, starts_over}
use Rattle.drum_machine.specs.Written.{shown_of}

at_most_one : (made : List Commit) → length made ≤ length made + 1
at_most_one made = omega arith

pub has_played_none : (pass : AudioView) → HasPlayed pass pass
has_played_none pass = record {
  seen = ([], sym (append-nil pass.seen));
  never_falls = λ never. never;
  made = ([], sym (append-nil pass.made));
  once = at_most_one pass.made;
}

pub has_played_one : (before after : AudioView) (number : ℕ) (state shown : State) → HasReadAudio before after number state shown → HasPlayed before after
has_played_one before after number state shown read =
    let last : List Pair = (number, read.row) ∷ [] in
    record {
      seen = (last, read.seen);
      never_falls = λ _. read.never_falls;
      made = ([], read.commits_stay ∙ sym (append-nil before.made));
      once = subst (λ (l : List Commit). length l ≤ length before.made + 1) (sym read.commits_stay) (at_most_one before.made);
    }

-- one thing after the other, where the second commits nothing
pub played_on : (before pass after : AudioView) → HasPlayed before pass → HasPlayed pass after → after.made ≡ pass.made → HasPlayed before after
played_on before pass after played more stays = record {
  seen = (played.seen.0 ++ more.seen.0, more.seen.1 ∙ ap (λ l. l ++ more.seen.0) played.seen.1 ∙ append_assoc before.seen played.seen.0 more.seen.0);
  never_falls = λ never. more.never_falls (played.never_falls never);
  made = (played.made.0, stays ∙ played.made.1);
  once = subst (λ (l : List Commit). length l ≤ length before.made + 1) (sym stays) played.once;
}

-- ---- the start

-- what a capture shows is what is shown of the row that was read
pub shown_by : (before after : AudioView) (number : ℕ) (state shown : State) (read : HasReadAudio before after number state shown) → shown ≡ shown_of before.made (number, read.row)
shown_by before after number state shown read = read.shown_is ∙ ap (λ (s : State). shown_over (last_of before.made) s.audio s) read.state_is

-- somebody plays, and nothing is committed
pub has_started_none : (at : ℤ) (before after : AudioView) (number : ℕ) (state shown : State) → shown.start.playing ≡ true → HasReadAudio before after number state shown → HasStarted at before after
has_started_none at before after number state shown plays read =
    let pair : Pair = (number, read.row) in
    let none : starts_over at (state_of_words read.row) (shown_of before.made pair) ≡ [] =
    ap (λ (s : State). starts_over at (state_of_words read.row) s) (sym (shown_by before after number state shown read))
    ∙ ap (λ (b : Bool). if b then [] else commit_between (state_of_words read.row) shown (changed_by change.Play at shown) at ∷ []) plays in
    record {
      pair = pair;
      seen = ([], read.seen ∙ sym (append-nil (before.seen ++ pair ∷ [])));
      made = read.commits_stay ∙ sym (append-nil before.made) ∙ ap (λ (l : List Commit). before.made ++ l) (sym none);
    }

-- nobody plays, and a start is committed; `stored` is the moment as it is stored
pub has_started_one : (at stored : ℤ) (before pass after : AudioView) (number : ℕ) (state shown : State) → stored ≡ at → shown.start.playing ≡ false
    → HasReadAudio before pass number state shown → after ≡ after_making pass (commit_between state shown (changed_by change.Play stored shown) stored)
    → HasStarted at before after
has_started_one at stored before pass after number state shown is stops read edited =
    let pair : Pair = (number, read.row) in
    let commit : Commit = commit_between (state_of_words read.row) shown (changed_by change.Play at shown) at in
    let one : starts_over at (state_of_words read.row) (shown_of before.made pair) ≡ commit ∷ [] =
    ap (λ (s : State). starts_over at (state_of_words read.row) s) (sym (shown_by before pass number state shown read))
    ∙ ap (λ (b : Bool). if b then [] else commit ∷ []) stops in
    let committed : commit_between state shown (changed_by change.Play stored shown) stored ≡ commit =
    ap (λ (n : ℤ). commit_between state shown (changed_by change.Play n shown) n) is
    ∙ ap (λ (s : State). commit_between s shown (changed_by change.Play at shown) at) read.state_is in
    record {
      pair = pair;
      seen = ([], ap (λ (v : AudioView). v.seen) edited ∙ read.seen ∙ sym (append-nil (before.seen ++ pair ∷ [])));
      made =
          ap (λ (v : AudioView). v.made) edited
          ∙ ap (λ (c : Commit). pass.made ++ c ∷ []) committed
          ∙ ap (λ (l : List Commit). l ++ commit ∷ []) read.commits_stay
          ∙ ap (λ (l : List Commit). before.made ++ l) (sym one);
    }

pub has_played_start : (before pass after : AudioView) (number : ℕ) (state shown : State) (commit : Commit)
    → HasReadAudio before pass number state shown → after ≡ after_making pass commit → HasPlayed before after
has_played_start before pass after number state shown commit read edited =
    let last : List Pair = (number, read.row) ∷ [] in
    let seen_is : after.seen ≡ pass.seen = ap (λ (v : AudioView). v.seen) edited in
    let made_is : after.made ≡ before.made ++ commit ∷ [] =
    ap (λ (v : AudioView). v.made) edited ∙ ap (λ (l : List Commit). l ++ commit ∷ []) read.commits_stay in
    record {
      seen = (last, seen_is ∙ read.seen);
      never_falls = λ _. subst NumbersNeverFall (sym seen_is) read.never_falls;
      made = (commit ∷ [], made_is);
      once = omega (arith, ap length made_is, length-append before.made (commit ∷ []));
    }

-- from where the first block begins, by its number and that of the start as they are stored
pub is_begun : (audio : Option AudioContents) (origin at : ℤ) (before after : AudioView) → BeginsAt audio origin → IsMoment origin → IsMoment at
    → at ≡ start_from (to_z w64 (of_z w64 origin)) → HasStarted (to_z w64 (of_z w64 at)) before after → HasBegun (to_z w64 (of_z w64 origin)) audio before after
is_begun audio origin at before after begins first moment is started = record {
  begins = subst (λ (n : ℤ). BeginsAt audio n) (sym (to_z-of_z w64 origin (moment_fits origin first))) begins;
  started = subst (λ (n : ℤ). HasStarted n before after) (to_z-of_z w64 at (moment_fits at moment) ∙ is) started;
}

-- what is read afterwards takes nothing from it
pub begun_on : (audio : Option AudioContents) (origin origin_then : ℤ) (before pass after : AudioView) → origin_then ≡ origin → after.made ≡ pass.made
    → HasPlayed pass after → HasBegun origin audio before pass → HasBegun origin_then audio before after
begun_on audio origin origin_then before pass after same stays more begun =
    let on : HasBegun origin audio before after = record {
      begins = begun.begins;
      started = record {
        pair = begun.started.pair;
        seen = (
          begun.started.seen.0 ++ more.seen.0,
          more.seen.1 ∙ ap (λ l. l ++ more.seen.0) begun.started.seen.1
              ∙ append_assoc (before.seen ++ begun.started.pair ∷ []) begun.started.seen.0 more.seen.0,
        );
        made = stays ∙ begun.started.made;
      };
    } in
    subst (λ (n : ℤ). HasBegun n audio before after) (sym same) on

-- ---- the blocks that are asked for

none_given : (contents : AudioContents) → HasGiven 0 contents contents
none_given contents = record { blocks = []; given = sym (append-nil contents.given); count_is = refl; plays = refl }

none_asked : (told : Option AudioContents) → HasAsked 0 told told
none_asked None = tt
none_asked (Some contents) = none_given contents

pub asked_none : (told told_then : Option AudioContents) → told_then ≡ told → HasAsked 0 told told_then
asked_none told told_then stays = subst (λ (t : Option AudioContents). HasAsked 0 told t) (sym stays) (none_asked told)

-- a device that gives no more leaves what was given
pub asked_still : (n : ℕ) (first told told_then : Option AudioContents) → told_then ≡ told → HasAsked n first told → HasAsked n first told_then
asked_still n first told told_then stays asked = subst (λ (t : Option AudioContents). HasAsked n first t) (sym stays) asked

first_given : (block : Block) (before after : AudioContents) → GivesBlock block before after → HasGiven 1 before after
first_given block before after gives = record { blocks = block ∷ []; given = gives.given; count_is = refl; plays = gives.plays }

pub asked_first : (block : Block) (before after : Option AudioContents) → BothTell (GivesBlock block) before after → HasAsked 1 before after
asked_first block None None gives = tt
asked_first block None (Some after) gives = absurd gives
asked_first block (Some before) None gives = absurd gives
asked_first block (Some before) (Some after) gives = first_given block before after gives

next_given : (n : ℕ) (block : Block) (first before after : AudioContents) → HasGiven n first before → GivesBlock block before after → HasGiven (n + 1) first after
next_given n block first before after past gives = record {
  blocks = past.blocks ++ block ∷ [];
  given = gives.given ∙ ap (λ (l : List Block). l ++ block ∷ []) past.given ∙ append_assoc first.given past.blocks (block ∷ []);
  count_is = omega (arith, length-append past.blocks (block ∷ []), past.count_is);
  plays = gives.plays ∙ past.plays;
}

-- one more
pub asked_next : (n : ℕ) (block : Block) (first before after : Option AudioContents) → HasAsked n first before → BothTell (GivesBlock block) before after
    → HasAsked (n + 1) first after
asked_next n block None None None asked gives = tt
asked_next n block None None (Some after) asked gives = absurd gives
asked_next n block None (Some before) after asked gives = absurd asked
asked_next n block (Some first) None after asked gives = absurd asked
asked_next n block (Some first) (Some before) None asked gives = absurd gives
asked_next n block (Some first) (Some before) (Some after) asked gives = next_given n block first before after asked gives

-- of all blocks, where one more was asked for than there are
pub asked_all : (n blocks : ℕ) (first after : Option AudioContents) → n ≤ blocks → blocks ≤ n → HasAsked (n + 1) first after → HasAsked (blocks + 1) first after
asked_all n blocks first after within whole asked =
    let same : n ≡ blocks = omega (arith, within, whole) in
    subst (λ (m : ℕ). HasAsked (m + 1) first after) same asked

-- ---- MIDI

-- what the law says of all parts holds of a block
pub block_messages : ((running : Bool) (parts : List Part) → All (λ event. IsMessage event.message) (all_events_of running parts))
    → (state : State) (running : Bool) (time : ℤ) (n : ℕ) (sent : List MidiEvent)
    → sent ≡ events_from state running time n → All (λ event. IsMessage event.message) sent
unfolding all_events_of
block_messages law state running time n sent is =
    All-same (λ event. IsMessage event.message) sent (events_from state running time n ++ []) (is ∙ sym (append-nil (events_from state running time n)))
    (law running (record { state = state; block = span time n } ∷ []))
