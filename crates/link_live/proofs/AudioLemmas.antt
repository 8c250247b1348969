-- The audio thread's loop: one block after another, and its end.
use Rattle.std.proofs.Common.{◌≡◌, ℕ, suc, ◌+◌, ◌≤◌, ◌<◌, ℤ, Bool, true, false, true≢false, List, [], ◌∷◌, ◌++◌, length, map, Option, Some, None, refl, sym, ap, subst, ◌∙◌, append_assoc, append-nil, length-append, arith}
use Rattle.std.proofs.lemmas.List.{map-append}
use Rattle.std.proofs.lemmas.List.Elements.{All-nil, All-push}
use Rattle.std.specs.Prelude.{All}
use Rattle.audio_handoff.specs.Cell.{Pair, NumbersNeverFall}
use Rattle.lk_base.specs.declared.block.Block.{Block}
use Rattle.lk_base.specs.declared.block.Click.{Click}
use Rattle.lk_outside.specs.Audio.{AudioContents, IsBlock, GivesBlock, IsAtLast, PlaysOne}
use Rattle.lk_outside.specs.Contents.{BothTell}
use Rattle.client_state.specs.State.{clicks_in}
use Rattle.client_state.specs.Shown.{shown_over}
use Rattle.client_state.specs.Words.{state_of_words}
use Rattle.client_state.specs.declared.commit.Commit.{Commit}
use Rattle.client_state.specs.declared.state.State.{State}
use Rattle.link_shared.specs.Audio.{AudioView, HasReadAudio, last_of}
use Rattle.link_shared.specs.Desk.{NoneIsNewer}
use Rattle.link_shared.specs.declared.capture.Capture.{Capture}
use Rattle.link_script.specs.declared.live_script.BlockCommand.{BlockCommand}
use Rattle.link_live.specs.AudioRun.{BlockRead, AreFresh, HasPlayed, HasNoneLeft, IsAudioRun, act_commits, acts_in, block_commits, blocks_commits, blocks_captures, blocks_of, clicks_of_blocks, looks_of, pairs_of}
use Rattle.link_live.specs.Clients.{capture_of, audio_taken}
use Rattle.link_live.specs.PlayingRun.{HasCommitted, IsPlaying, IsEnded, commits_on, commands_before}
use Rattle.link_live.proofs.CommitLemmas.{commits_of_pair, before-next, few_before, made_by}
use Rattle.link_live.proofs.GrownLemmas.{both_tell, itself_told}

-- ---- one block more at the end of those so far

commits_push : (commands : List BlockCommand) (made : List Commit) (number : ℕ) (reads : List BlockRead) (read : BlockRead)
    → blocks_commits commands made number (reads ++ read ∷ [])
    ≡ blocks_commits commands made number reads ++ block_commits commands (made ++ blocks_commits commands made number reads) (number + length reads) read
unfolding blocks_commits
commits_push commands made number [] read =
    let at : number + 0 ≡ number = omega arith in
    append-nil (block_commits commands made number read)
    ∙ ap (λ (l : List Commit). block_commits commands l number read) (sym (append-nil made))
    ∙ ap (λ (n : ℕ). block_commits commands (made ++ []) n read) (sym at)
commits_push commands made number (r ∷ reads) read =
    let commits = block_commits commands made number r in
    let rest = blocks_commits commands (made ++ commits) (number + 1) reads in
    let at : (number + 1) + length reads ≡ number + suc (length reads) = omega arith in
    ap (λ (l : List Commit). commits ++ l) (commits_push commands (made ++ commits) (number + 1) reads read)
    ∙ sym (append_assoc commits rest (block_commits commands ((made ++ commits) ++ rest) ((number + 1) + length reads) read))
    ∙ ap (λ (l : List Commit). (commits ++ rest) ++ block_commits commands l ((number + 1) + length reads) read) (append_assoc made commits rest)
    ∙ ap (λ (n : ℕ). (commits ++ rest) ++ block_commits commands (made ++ (commits ++ rest)) n read) at

captures_push : (commands : List BlockCommand) (made : List Commit) (number : ℕ) (reads : List BlockRead) (read : BlockRead)
    → blocks_captures commands made number (reads ++ read ∷ [])
    ≡ blocks_captures commands made number reads ++ capture_of audio_taken (made ++ blocks_commits commands made number reads) read.pair ∷ []
unfolding blocks_captures blocks_commits
captures_push commands made number [] read = ap (λ (l : List Commit). capture_of audio_taken l read.pair ∷ []) (sym (append-nil made))
captures_push commands made number (r ∷ reads) read =
    let commits = block_commits commands made number r in
    let rest = blocks_commits commands (made ++ commits) (number + 1) reads in
    ap (λ (l : List Capture). capture_of audio_taken made r.pair ∷ l)
    (captures_push commands (made ++ commits) (number + 1) reads read
    ∙ ap (λ (l : List Commit). blocks_captures commands (made ++ commits) (number + 1) reads ++ capture_of audio_taken l read.pair ∷ []) (append_assoc made commits rest))

captures_count : (commands : List BlockCommand) (made : List Commit) (number : ℕ) (reads : List BlockRead) → length (blocks_captures commands made number reads) ≡ length reads
unfolding blocks_captures
captures_count commands made number [] = refl
captures_count commands made number (r ∷ reads) = ap suc (captures_count commands (made ++ block_commits commands made number r) (number + 1) reads)

clicks_first : (captures : List Capture) (capture : Capture) (reads : List BlockRead) → length captures ≡ length reads
    → clicks_of_blocks (captures ++ capture ∷ []) reads ≡ clicks_of_blocks captures reads
clicks_first [] capture [] e = refl
clicks_first [] capture (r ∷ reads) e = absurd (omega (arith, e))
clicks_first (c ∷ captures) capture [] e = absurd (omega (arith, e))
clicks_first (c ∷ captures) capture (r ∷ reads) e = ap (λ (l : List (List Click)). clicks_in c.shown r.block ∷ l) (clicks_first captures capture reads (omega (arith, e)))

clicks_push : (captures : List Capture) (capture : Capture) (reads : List BlockRead) (read : BlockRead) → length captures ≡ length reads
    → clicks_of_blocks (captures ++ capture ∷ []) (reads ++ read ∷ []) ≡ clicks_of_blocks captures reads ++ clicks_in capture.shown read.block ∷ []
clicks_push [] capture [] read e = refl
clicks_push [] capture (r ∷ reads) read e = absurd (omega (arith, e))
clicks_push (c ∷ captures) capture [] read e = absurd (omega (arith, e))
clicks_push (c ∷ captures) capture (r ∷ reads) read e = ap (λ (l : List (List Click)). clicks_in c.shown r.block ∷ l) (clicks_push captures capture reads read (omega (arith, e)))

clicks_count : (captures : List Capture) (reads : List BlockRead) → length captures ≡ length reads → length (clicks_of_blocks captures reads) ≡ length reads
clicks_count [] [] e = refl
clicks_count [] (r ∷ reads) e = absurd (omega (arith, e))
clicks_count (c ∷ captures) [] e = absurd (omega (arith, e))
clicks_count (c ∷ captures) (r ∷ reads) e = ap suc (clicks_count captures reads (omega (arith, e)))

fresh_push : (seen : List Pair) (reads : List BlockRead) (read : BlockRead) → AreFresh seen reads → NoneIsNewer read.look (seen ++ pairs_of reads) → read.look ≤ read.pair.0 → AreFresh seen (reads ++ read ∷ [])
fresh_push seen [] read fresh newest answered = (subst (NoneIsNewer read.look) (append-nil seen) newest, answered, tt)
fresh_push seen (r ∷ reads) read fresh newest answered = (
  fresh.0,
  fresh.1,
  fresh_push (seen ++ r.pair ∷ []) reads read fresh.2 (subst (NoneIsNewer read.look) (sym (append_assoc seen (r.pair ∷ []) (pairs_of reads))) newest) answered,
)

-- ---- what the device tells

played_none : (contents : AudioContents) → HasPlayed [] [] contents contents
played_none contents = record { left = refl; given = sym (append-nil contents.given); played = sym (append-nil contents.plays) }

given_then : (blocks : List Block) (plays : List (List Click)) (block : Block) (told one two : Option AudioContents) → BothTell (HasPlayed blocks plays) told one → BothTell (GivesBlock block) one two
    → BothTell (HasPlayed (blocks ++ block ∷ []) plays) told two
given_then blocks plays block told one two = both_tell (HasPlayed blocks plays) (GivesBlock block) (HasPlayed (blocks ++ block ∷ []) plays) told one two (λ a b c first second. record {
  left = first.left ∙ ap (λ (l : List Block). blocks ++ l) second.left ∙ sym (append_assoc blocks (block ∷ []) c.left);
  given = second.given ∙ ap (λ (l : List Block). l ++ block ∷ []) first.given ∙ append_assoc a.given blocks (block ∷ []);
  played = second.plays ∙ first.played;
})

played_then : (blocks : List Block) (plays : List (List Click)) (clicks : List Click) (told one two : Option AudioContents) → BothTell (HasPlayed blocks plays) told one → BothTell (PlaysOne clicks) one two
    → BothTell (HasPlayed blocks (plays ++ clicks ∷ [])) told two
played_then blocks plays clicks told one two = both_tell (HasPlayed blocks plays) (PlaysOne clicks) (HasPlayed blocks (plays ++ clicks ∷ [])) told one two (λ a b c first second. record {
  left = first.left ∙ ap (λ (l : List Block). blocks ++ l) (sym second.left);
  given = second.given ∙ first.given;
  played = second.plays ∙ ap (λ (l : List (List Click)). l ++ clicks ∷ []) first.played ∙ append_assoc a.plays plays (clicks ∷ []);
})

none_left : (one two : Option AudioContents) → BothTell IsAtLast one two → (two ≡ one) × HasNoneLeft two
none_left None None last = (refl, tt)
none_left None (Some b) last = absurd last
none_left (Some a) None last = absurd last
none_left (Some a) (Some b) last = (ap (λ (c : AudioContents). Some c) last.stays, ap (λ (c : AudioContents). c.left) last.stays ∙ last.none_left)

-- ---- a block was given, and a state captured for it

-- what is said of the blocks so far and of this one, whether its clicks are played or not
record HasGiven (commands : List BlockCommand) (first now : AudioView) (told told_now : Option AudioContents) (reads : List Capture) (plays : List (List Click)) (played : List BlockRead) (read : BlockRead) : Type 0 where
  each_block : All IsBlock (blocks_of (played ++ read ∷ []))
  grown : BothTell (HasPlayed (blocks_of (played ++ read ∷ [])) plays) told told_now
  seen : now.seen ≡ first.seen ++ pairs_of (played ++ read ∷ [])
  looks : now.looks ≡ first.looks ++ looks_of (played ++ read ∷ [])
  fresh : AreFresh first.seen (played ++ read ∷ [])
  never_falls : NumbersNeverFall first.seen → NumbersNeverFall now.seen
  reads_are : reads ≡ blocks_captures commands first.made 1 (played ++ read ∷ [])

captured : (before after : AudioView) (capture : Capture) (read : HasReadAudio before after capture.number capture.state capture.shown) → capture ≡ capture_of audio_taken before.made (capture.number, read.row)
unfolding capture_of
captured before after capture read =
    let shown_is : capture.shown ≡ shown_over (last_of before.made) (state_of_words read.row).audio (state_of_words read.row) = read.shown_is ∙ ap (λ (s : State). shown_over (last_of before.made) s.audio s) read.state_is in
    λ i. record { number = capture.number; state = read.state_is i; shown = shown_is i }

has_given : (commands : List BlockCommand) (number : ℕ) (first before after : AudioView) (told one two : Option AudioContents) (block : Block) (capture : Capture) (reads reads_then : List Capture) (commits : List Commit) (plays : List (List Click))
    → (playing : IsPlaying commands number first before told one reads commits plays) → IsBlock block → BothTell (GivesBlock block) one two
    → (read : HasReadAudio before after capture.number capture.state capture.shown) → reads_then ≡ reads ++ capture ∷ []
    → HasGiven commands first after told two reads_then plays playing.played (record { block = block; look = read.look; pair = (capture.number, read.row) })
has_given commands number first before after told one two block capture reads reads_then commits plays playing is_block gives read reads_are = record {
  each_block = subst (All IsBlock) (sym (map-append (λ (r : BlockRead). r.block) playing.played (this ∷ []))) (All-push IsBlock (blocks_of playing.played) block playing.each_block is_block);
  grown = subst (λ (l : List Block). BothTell (HasPlayed l plays) told two) (sym (map-append (λ (r : BlockRead). r.block) playing.played (this ∷ []))) (given_then (blocks_of playing.played) plays block told one two playing.grown gives);
  seen = read.seen ∙ ap (λ (l : List Pair). l ++ this.pair ∷ []) playing.seen ∙ append_assoc first.seen (pairs_of playing.played) (this.pair ∷ [])
      ∙ ap (λ (l : List Pair). first.seen ++ l) (sym (map-append (λ (r : BlockRead). r.pair) playing.played (this ∷ [])));
  looks = read.looks ∙ ap (λ (l : List ℕ). l ++ this.look ∷ []) playing.looks ∙ append_assoc first.looks (looks_of playing.played) (this.look ∷ [])
      ∙ ap (λ (l : List ℕ). first.looks ++ l) (sym (map-append (λ (r : BlockRead). r.look) playing.played (this ∷ [])));
  fresh = fresh_push first.seen playing.played this playing.fresh (subst (NoneIsNewer this.look) playing.seen read.look_is_not_older) read.look_was_answered;
  never_falls = λ _. read.never_falls;
  reads_are = reads_are ∙ ap (λ (l : List Capture). l ++ capture ∷ []) playing.reads_are
      ∙ ap (λ (c : Capture). blocks_captures commands first.made 1 playing.played ++ c ∷ [])
      (captured before after capture read ∙ ap (λ (l : List Commit). capture_of audio_taken l this.pair) (playing.made ∙ ap (λ (l : List Commit). first.made ++ l) playing.commits_are))
      ∙ sym (captures_push commands first.made 1 playing.played this);
}
  where
    this : BlockRead
    this = record { block = block; look = read.look; pair = (capture.number, read.row) }

-- the commits made in this block
block_commits_are : (commands : List BlockCommand) (number n : ℕ) (read : BlockRead) (made before : List Commit) (state : State) → number ≡ n → made ≡ before → state ≡ state_of_words read.pair.1
    → commits_on read.block.start state made (acts_in number commands) ≡ block_commits commands before n read
unfolding block_commits
block_commits_are commands number n read made before state number_is made_is state_is =
    ap (λ (s : State). commits_on read.block.start s made (acts_in number commands)) state_is
    ∙ ap (λ (l : List Commit). commits_on read.block.start (state_of_words read.pair.1) l (acts_in number commands)) made_is
    ∙ sym (commits_of_pair read.block.start read.pair before (acts_in number commands))
    ∙ ap (λ (k : ℕ). act_commits read.block.start read.pair before (acts_in k commands)) number_is

-- the captures are as many as the blocks
reads_count : (commands : List BlockCommand) (number : ℕ) (first now : AudioView) (told told_now : Option AudioContents) (reads : List Capture) (commits : List Commit) (plays : List (List Click))
    → (playing : IsPlaying commands number first now told told_now reads commits plays) → length reads ≡ length playing.played
reads_count commands number first now told told_now reads commits plays playing = ap length playing.reads_are ∙ captures_count commands first.made 1 playing.played

-- ---- a block was played

pub played_one : (commands : List BlockCommand) (number : ℕ) (first before between after : AudioView) (told one two three : Option AudioContents) (block : Block) (capture : Capture)
    (reads reads_then : List Capture) (commits commits_then : List Commit) (plays plays_then : List (List Click)) (clicks : List Click)
    → IsBlock block → BothTell (GivesBlock block) one two → HasReadAudio before between capture.number capture.state capture.shown → reads_then ≡ reads ++ capture ∷ []
    → clicks ≡ clicks_in capture.shown block → BothTell (PlaysOne clicks) two three → plays_then ≡ plays ++ clicks ∷ []
    → HasCommitted block.start number commands capture.state between after commits commits_then
    → IsPlaying commands number first before told one reads commits plays → IsPlaying commands (number + 1) first after told three reads_then commits_then plays_then
played_one commands number first before between after told one two three block capture reads reads_then commits commits_then plays plays_then clicks is_block gives read reads_are clicks_are done plays_are committed playing = record {
  played = playing.played ++ this ∷ [];
  next = ap (λ (n : ℕ). n + 1) playing.next ∙ ap (λ (n : ℕ). n + 1) (sym (length-append playing.played (this ∷ [])));
  each_block = given.each_block;
  grown = subst (λ (l : List (List Click)). BothTell (HasPlayed (blocks_of (playing.played ++ this ∷ [])) l) told three) (sym plays_are) (played_then (blocks_of (playing.played ++ this ∷ [])) plays clicks told two three given.grown done);
  seen = committed.seen ∙ given.seen;
  looks = committed.looks ∙ given.looks;
  fresh = given.fresh;
  never_falls = λ never. subst NumbersNeverFall (sym committed.seen) (given.never_falls never);
  reads_are = given.reads_are;
  plays_are = plays_are ∙ ap (λ (l : List (List Click)). l ++ clicks ∷ []) playing.plays_are ∙ ap (λ (l : List Click). clicks_of_blocks reads playing.played ++ l ∷ []) clicks_are
      ∙ sym (clicks_push reads capture playing.played this (reads_count commands number first before told one reads commits plays playing))
      ∙ ap (λ (l : List Capture). clicks_of_blocks l (playing.played ++ this ∷ [])) (sym reads_are);
  commits_are = committed.commits_are ∙ ap (λ (l : List Commit). l ++ news) playing.commits_are ∙ ap (λ (l : List Commit). blocks_commits commands first.made 1 playing.played ++ l) news_are
      ∙ sym (commits_push commands first.made 1 playing.played this);
  made = committed.made_are ∙ ap (λ (l : List Commit). l ++ news) (read.commits_stay ∙ playing.made) ∙ append_assoc first.made commits news ∙ ap (λ (l : List Commit). first.made ++ l) (sym committed.commits_are);
  few = enough (length commits_then) (length commits) (length (acts_in number commands)) (length (commands_before number commands)) (length (commands_before (number + 1) commands))
      (made_by block.start number commands capture.state between after commits commits_then committed).1 (before-next number commands) playing.few;
}
  where
    this : BlockRead
    this = record { block = block; look = read.look; pair = (capture.number, read.row) }

    given : HasGiven commands first between told two reads_then plays playing.played this
    given = has_given commands number first before between told one two block capture reads reads_then commits plays playing is_block gives read reads_are

    news : List Commit
    news = commits_on block.start capture.state between.made (acts_in number commands)

    before_are : between.made ≡ first.made ++ blocks_commits commands first.made 1 playing.played
    before_are = read.commits_stay ∙ playing.made ∙ ap (λ (l : List Commit). first.made ++ l) playing.commits_are

    enough : (a b c d e : ℕ) → a ≡ b + c → e ≡ d + c → b ≤ d → a ≤ e
    enough a b c d e x y z = omega (arith, x, y, z)

    news_are : news ≡ block_commits commands (first.made ++ blocks_commits commands first.made 1 playing.played) (1 + length playing.played) this
    news_are = block_commits_are commands number (1 + length playing.played) this between.made (first.made ++ blocks_commits commands first.made 1 playing.played) capture.state
        (omega (arith, playing.next)) before_are read.state_is

-- the same with the start as it is stored
pub played_stored : (start_stored : ℤ) (commands : List BlockCommand) (number : ℕ) (first before between after : AudioView) (told one two three : Option AudioContents) (block : Block) (capture : Capture)
    (reads reads_then : List Capture) (commits commits_then : List Commit) (plays plays_then : List (List Click)) (clicks : List Click)
    → start_stored ≡ block.start → IsBlock block → BothTell (GivesBlock block) one two → HasReadAudio before between capture.number capture.state capture.shown → reads_then ≡ reads ++ capture ∷ []
    → clicks ≡ clicks_in capture.shown block → BothTell (PlaysOne clicks) two three → plays_then ≡ plays ++ clicks ∷ []
    → HasCommitted start_stored number commands capture.state between after commits commits_then
    → IsPlaying commands number first before told one reads commits plays → IsPlaying commands (number + 1) first after told three reads_then commits_then plays_then
played_stored start_stored commands number first before between after told one two three block capture reads reads_then commits commits_then plays plays_then clicks start_is is_block gives read reads_are clicks_are done plays_are committed playing =
    played_one commands number first before between after told one two three block capture reads reads_then commits commits_then plays plays_then clicks is_block gives read reads_are clicks_are done plays_are
    (subst (λ (at : ℤ). HasCommitted at number commands capture.state between after commits commits_then) start_is committed) playing

pub mapped_push : {A B : Type 0} (f : A → B) (xs ys : List A) (x : A) → ys ≡ xs ++ x ∷ [] → map f ys ≡ map f xs ++ f x ∷ []
mapped_push f xs ys x is = ap (map f) is ∙ map-append f xs (x ∷ [])

-- ---- the run has ended

-- where it ends between two blocks
ended_run : (commands : List BlockCommand) (number most : ℕ) (first now : AudioView) (told told_now : Option AudioContents) (reads : List Capture) (commits : List Commit) (plays : List (List Click)) (failed : Bool)
    → IsPlaying commands number first now told told_now reads commits plays → ((n : ℕ) → number ≡ n + 1 → n ≤ most) → (failed ≡ false → (n : ℕ) → number ≡ n + 1 → n < most → HasNoneLeft told_now)
    → IsAudioRun most commands first now told told_now reads commits plays failed
ended_run commands number most first now told told_now reads commits plays failed playing few ended = record {
  played = playing.played;
  unplayed = [];
  one_unplayed = omega arith;
  all_played = λ _. refl;
  each_block = subst (λ (l : List BlockRead). All IsBlock (blocks_of l)) same playing.each_block;
  grown = subst (λ (l : List BlockRead). BothTell (HasPlayed (blocks_of l) plays) told told_now) same playing.grown;
  few = subst (λ (l : List BlockRead). length l ≤ most) same (few (length playing.played) playing.next);
  ended = λ works. ended works (length playing.played) playing.next;
  seen = playing.seen ∙ ap (λ (l : List BlockRead). first.seen ++ pairs_of l) same;
  looks = playing.looks ∙ ap (λ (l : List BlockRead). first.looks ++ looks_of l) same;
  fresh = subst (λ (l : List BlockRead). AreFresh first.seen l) same playing.fresh;
  never_falls = playing.never_falls;
  reads_are = playing.reads_are ∙ ap (λ (l : List BlockRead). blocks_captures commands first.made 1 l) same;
  plays_are = playing.plays_are;
  commits_are = playing.commits_are;
  made = playing.made;
}
  where
    same : playing.played ≡ playing.played ++ []
    same = sym (append-nil playing.played)

-- the device failed to play a block
pub failed_to_play : (commands : List BlockCommand) (number : ℕ) (first before between : AudioView) (told one two three : Option AudioContents) (block : Block) (capture : Capture)
    (reads reads_then : List Capture) (commits : List Commit) (plays : List (List Click))
    → IsBlock block → BothTell (GivesBlock block) one two → HasReadAudio before between capture.number capture.state capture.shown → reads_then ≡ reads ++ capture ∷ [] → three ≡ two
    → IsPlaying commands number first before told one reads commits plays → IsEnded commands number first between told three reads_then commits plays true
failed_to_play commands number first before between told one two three block capture reads reads_then commits plays is_block gives read reads_are same playing most le = record {
  played = playing.played;
  unplayed = this ∷ [];
  one_unplayed = omega arith;
  all_played = λ e. absurd (true≢false e);
  each_block = given.each_block;
  grown = subst (λ (o : Option AudioContents). BothTell (HasPlayed (blocks_of (playing.played ++ this ∷ [])) plays) told o) (sym same) given.grown;
  few = subst (λ (n : ℕ). n ≤ most) (playing.next ∙ sym (length-append playing.played (this ∷ []))) le;
  ended = λ e. absurd (true≢false e);
  seen = given.seen;
  looks = given.looks;
  fresh = given.fresh;
  never_falls = given.never_falls;
  reads_are = given.reads_are;
  plays_are = playing.plays_are ∙ sym (clicks_first reads capture playing.played (reads_count commands number first before told one reads commits plays playing))
      ∙ ap (λ (l : List Capture). clicks_of_blocks l playing.played) (sym reads_are);
  commits_are = playing.commits_are;
  made = read.commits_stay ∙ playing.made;
}
  where
    this : BlockRead
    this = record { block = block; look = read.look; pair = (capture.number, read.row) }

    given : HasGiven commands first between told two reads_then plays playing.played this
    given = has_given commands number first before between told one two block capture reads reads_then commits plays playing is_block gives read reads_are

-- no block is left
pub has_closed : (commands : List BlockCommand) (number : ℕ) (first now : AudioView) (told one two : Option AudioContents) (reads : List Capture) (commits : List Commit) (plays : List (List Click))
    → BothTell IsAtLast one two → IsPlaying commands number first now told one reads commits plays → IsEnded commands number first now told two reads commits plays false
has_closed commands number first now told one two reads commits plays last playing most le =
    ended_run commands number most first now told two reads commits plays false
    (subst (λ (o : Option AudioContents). IsPlaying commands number first now told o reads commits plays) (sym (none_left one two last).0) playing)
    (λ n is. omega (arith, le, is)) (λ _ _ _ _. (none_left one two last).1)

-- the device failed to give one
pub has_failed : (commands : List BlockCommand) (number : ℕ) (first now : AudioView) (told one two : Option AudioContents) (reads : List Capture) (commits : List Commit) (plays : List (List Click))
    → two ≡ one → IsPlaying commands number first now told one reads commits plays → IsEnded commands number first now told two reads commits plays true
has_failed commands number first now told one two reads commits plays same playing most le =
    ended_run commands number most first now told two reads commits plays true
    (subst (λ (o : Option AudioContents). IsPlaying commands number first now told o reads commits plays) (sym same) playing)
    (λ n is. omega (arith, le, is)) (λ e _ _ _. absurd (true≢false e))

-- as many blocks were played as were asked for
pub has_played_all : (commands : List BlockCommand) (played most : ℕ) (first now : AudioView) (told told_now : Option AudioContents) (reads : List Capture) (commits : List Commit) (plays : List (List Click))
    → played ≤ most → most ≤ played → IsPlaying commands (played + 1) first now told told_now reads commits plays
    → IsAudioRun most commands first now told told_now reads commits plays false
has_played_all commands played most first now told told_now reads commits plays few all playing =
    ended_run commands (played + 1) most first now told told_now reads commits plays false playing (λ n is. omega (arith, few, is)) (λ _ n is less. absurd (omega (arith, all, is, less)))

-- ---- the first block

pub has_begun : (commands : List BlockCommand) (view : AudioView) (told : Option AudioContents) (reads : List Capture) (commits : List Commit) (plays : List (List Click))
    → reads ≡ [] → commits ≡ [] → plays ≡ [] → IsPlaying commands 1 view view told told reads commits plays
unfolding blocks_captures blocks_commits
has_begun commands view told reads commits plays no_reads no_commits no_plays = record {
  played = [];
  next = refl;
  each_block = All-nil IsBlock;
  grown = subst (λ (l : List (List Click)). BothTell (HasPlayed [] l) told told) (sym no_plays) (itself_told (HasPlayed [] []) told told refl played_none);
  seen = sym (append-nil view.seen);
  looks = sym (append-nil view.looks);
  fresh = tt;
  never_falls = λ never. never;
  reads_are = no_reads;
  plays_are = no_plays ∙ ap (λ (l : List Capture). clicks_of_blocks l []) (sym no_reads);
  commits_are = no_commits;
  made = sym (ap (λ (l : List Commit). view.made ++ l) no_commits ∙ append-nil view.made);
  few = subst (λ (l : List Commit). length l ≤ length (commands_before 1 commands)) (sym no_commits) (omega arith);
}

-- ---- room

-- for what a block adds to the lists, where there is room for all blocks and commands
pub room_for_block : (commands : List BlockCommand) (number : ℕ) (first now : AudioView) (told told_now : Option AudioContents) (reads : List Capture) (commits : List Commit) (plays : List (List Click))
    → IsPlaying commands number first now told told_now reads commits plays
    → (length reads + 1 ≡ number) × (length plays + 1 ≡ number) × (length commits + length (acts_in number commands) ≤ length commands)
    × (length now.made + length (acts_in number commands) ≤ length first.made + length commands)
room_for_block commands number first now told told_now reads commits plays playing =
    let count = reads_count commands number first now told told_now reads commits plays playing in
    let played = ap length playing.plays_are ∙ clicks_count reads playing.played count in
    let made = ap length playing.made ∙ length-append first.made commits in
    let next = before-next number commands in
    let most = few_before (number + 1) commands in
    let fit : length commits + length (acts_in number commands) ≤ length commands = omega (arith, playing.few, next, most) in
    (omega (arith, count, playing.next), omega (arith, played, playing.next), fit, omega (arith, made, fit))
