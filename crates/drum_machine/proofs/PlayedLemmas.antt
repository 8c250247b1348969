-- Blocks that are played one after another, and what is written of them.
use Rattle.std.proofs.Common.{◌≡◌, ℕ, ◌+◌, ◌*◌, ◌<◌, ◌≤◌, ℤ, pos, Bool, true, false, List, [], ◌∷◌, ◌++◌, length, map, take, get_or, Option, inl, inr, refl, ap, sym, subst, ◌∙◌, arith, append_assoc, append-nil, length-append}
use Rattle.std.proofs.lemmas.List.{map-append, length-map}
use Rattle.std.proofs.lemmas.Grind.{flat_map-append}
use Rattle.std.specs.Bool.{OnTrue, OnFalse}
use Rattle.audio_handoff.specs.Cell.{Pair}
use Rattle.client_state.specs.declared.commit.Commit.{Commit}
use Rattle.client_state.specs.declared.state.State.{State}
use Rattle.link_midi.specs.Events.{events_of, running_after}
use Rattle.link_midi.specs.declared.message.MidiEvent.{MidiEvent}
use Rattle.link_midi.specs.declared.message.MidiMessage.TheVariants.{Clock}
use Rattle.link_shared.specs.Audio.{AudioView, HasReadAudio}
use Rattle.lk_outside.specs.Audio.{AudioContents}
use Rattle.lk_outside.specs.Sink.{Appends}
use Rattle.lk_outside.specs.Transfer.{AppendsPrefix}
use Rattle.step_sequencer.specs.Sound.{Ages, sounds_from, ages_from}
use Rattle.step_sequencer.specs.Wav.{header_of, sample_bytes, samples_bytes}
use Rattle.step_sequencer.specs.declared.pattern.Pattern.{Pattern}
use Rattle.drum_machine.specs.Callback.{block_from}
use Rattle.drum_machine.specs.Player.{HasAsked, HasBegun, HasCutBlock, HasPlayedBlock, IsPlayedInPart, IsPlayedWhole}
use Rattle.drum_machine.specs.Written.{AppendsFront, AreCutShort, AreCutShortByReads, AreWritten, midi_length, midi_line_of, midi_lines_of, midi_of_blocks, shown_of, sound_length, sounds_of_blocks, wav_of}
use Rattle.drum_machine.specs.declared.callback.Drums.{Drums}
use Rattle.drum_machine.proofs.PlayerLemmas.{shown_by}
use Rattle.drum_machine.proofs.TextLemmas.{appends_more, front_more, front_same, front_whole, none_appended, texts_front, texts_more}

-- ---- one block more

-- the voices' ages after blocks, and whether the MIDI clock runs then
abbrev ages_of_blocks : Pattern → ℤ → Ages → ℕ → List State → Ages
ages_of_blocks pattern origin ages first [] = ages
ages_of_blocks pattern origin ages first (shown ∷ more) =
    ages_of_blocks pattern origin (ages_from pattern shown origin ages first 960) (first + 960) more

abbrev running_of_blocks : ℤ → Bool → ℕ → List State → Bool
running_of_blocks origin running first [] = running
running_of_blocks origin running first (shown ∷ more) =
    running_of_blocks origin (running_after shown running (block_from origin first)) (first + 960) more

-- the frame behind blocks
same_first : (first last : ℕ) → last ≡ first + 0 * 960 → first ≡ last
same_first first last e = omega (arith, e)

next_first : (first last n : ℕ) → last ≡ first + (n + 1) * 960 → last ≡ first + 960 + n * 960
next_first first last n e = omega (arith, e)

module _ (pattern : Pattern) (origin : ℤ) (s : State) where
  ages-snoc : (ages : Ages) (first last : ℕ) (xs : List State) → last ≡ first + length xs * 960
      → ages_of_blocks pattern origin ages first (xs ++ s ∷ []) ≡ ages_from pattern s origin (ages_of_blocks pattern origin ages first xs) last 960
  ages-snoc ages first last [] e = ap (λ (f : ℕ). ages_from pattern s origin ages f 960) (same_first first last e)
  ages-snoc ages first last (x ∷ xs) e =
      ages-snoc (ages_from pattern x origin ages first 960) (first + 960) last xs (next_first first last (length xs) (e ∙ omega arith))

  sounds-snoc : (ages : Ages) (first last : ℕ) (xs : List State) → last ≡ first + length xs * 960
      → sounds_of_blocks pattern origin ages first (xs ++ s ∷ [])
      ≡ sounds_of_blocks pattern origin ages first xs ++ sounds_from pattern s origin (ages_of_blocks pattern origin ages first xs) last 960
  unfolding sounds_of_blocks
  sounds-snoc ages first last [] e =
      append-nil (sounds_from pattern s origin ages first 960) ∙ ap (λ (f : ℕ). sounds_from pattern s origin ages f 960) (same_first first last e)
  sounds-snoc ages first last (x ∷ xs) e =
      let here = sounds_from pattern x origin ages first 960 in
      let then = ages_from pattern x origin ages first 960 in
      ap (λ l. here ++ l) (sounds-snoc then (first + 960) last xs (next_first first last (length xs) (e ∙ omega arith)))
      ∙ sym (append_assoc here (sounds_of_blocks pattern origin then (first + 960) xs) (sounds_from pattern s origin (ages_of_blocks pattern origin then (first + 960) xs) last 960))

module _ (origin : ℤ) (s : State) where
  running-snoc : (running : Bool) (first last : ℕ) (xs : List State) → last ≡ first + length xs * 960
      → running_of_blocks origin running first (xs ++ s ∷ []) ≡ running_after s (running_of_blocks origin running first xs) (block_from origin last)
  running-snoc running first last [] e = ap (λ (f : ℕ). running_after s running (block_from origin f)) (same_first first last e)
  running-snoc running first last (x ∷ xs) e =
      running-snoc (running_after x running (block_from origin first)) (first + 960) last xs (next_first first last (length xs) (e ∙ omega arith))

  midi-snoc : (running : Bool) (first last : ℕ) (xs : List State) → last ≡ first + length xs * 960
      → midi_of_blocks origin running first (xs ++ s ∷ [])
      ≡ midi_of_blocks origin running first xs ++ midi_lines_of (events_of s (running_of_blocks origin running first xs) (block_from origin last))
  unfolding midi_of_blocks
  midi-snoc running first last [] e =
      append-nil (midi_lines_of (events_of s running (block_from origin first)))
      ∙ ap (λ (f : ℕ). midi_lines_of (events_of s running (block_from origin f))) (same_first first last e)
  midi-snoc running first last (x ∷ xs) e =
      let here = midi_lines_of (events_of x running (block_from origin first)) in
      let then = running_after x running (block_from origin first) in
      ap (λ l. here ++ l) (midi-snoc then (first + 960) last xs (next_first first last (length xs) (e ∙ omega arith)))
      ∙ sym (append_assoc here (midi_of_blocks origin then (first + 960) xs) (midi_lines_of (events_of s (running_of_blocks origin then (first + 960) xs) (block_from origin last))))

-- ---- what is written

samples-append : (xs ys : List ℤ) → samples_bytes (xs ++ ys) ≡ samples_bytes xs ++ samples_bytes ys
unfolding samples_bytes
samples-append xs ys = flat_map-append sample_bytes xs ys

no_samples : samples_bytes [] ≡ []
unfolding samples_bytes
no_samples = refl

no_sounds : (pattern : Pattern) (origin : ℤ) (ages : Ages) → sounds_of_blocks pattern origin ages 0 [] ≡ []
unfolding sounds_of_blocks
no_sounds pattern origin ages = refl

no_midi : (origin : ℤ) (running : Bool) → midi_of_blocks origin running 0 [] ≡ []
unfolding midi_of_blocks
no_midi origin running = refl

-- before any block
headed : (blocks : ℕ) (pattern : Pattern) (origin : ℤ) (ages : Ages) → wav_of blocks (sounds_of_blocks pattern origin ages 0 []) ≡ header_of (blocks * 960)
unfolding wav_of
headed blocks pattern origin ages =
    ap (λ (l : List ℤ). header_of (blocks * 960) ++ samples_bytes l) (no_sounds pattern origin ages)
    ∙ ap (λ l. header_of (blocks * 960) ++ l) no_samples
    ∙ append-nil (header_of (blocks * 960))

-- with a block more
wav_more : (blocks first : ℕ) (pattern given : Pattern) (origin : ℤ) (ages kit : Ages) (s : State) (xs : List State)
    → first ≡ 0 + length xs * 960 → given ≡ pattern → kit ≡ ages_of_blocks pattern origin ages 0 xs
    → wav_of blocks (sounds_of_blocks pattern origin ages 0 xs) ++ samples_bytes (sounds_from given s origin kit first 960)
    ≡ wav_of blocks (sounds_of_blocks pattern origin ages 0 (xs ++ s ∷ []))
unfolding wav_of
wav_more blocks first pattern given origin ages kit s xs last same kit_is =
    let header = header_of (blocks * 960) in
    let sounds = sounds_of_blocks pattern origin ages 0 xs in
    append_assoc header (samples_bytes sounds) (samples_bytes (sounds_from given s origin kit first 960))
    ∙ ap (λ l. header ++ l) (sym (samples-append sounds (sounds_from given s origin kit first 960)))
    ∙ ap (λ (p : Pattern). header ++ samples_bytes (sounds ++ sounds_from p s origin kit first 960)) same
    ∙ ap (λ (k : Ages). header ++ samples_bytes (sounds ++ sounds_from pattern s origin k first 960)) kit_is
    ∙ ap (λ (l : List ℤ). header ++ samples_bytes l) (sym (sounds-snoc pattern origin s ages 0 first xs last))

midi_more : (first : ℕ) (origin : ℤ) (running clock : Bool) (s : State) (xs : List State) → first ≡ 0 + length xs * 960 → clock ≡ running_of_blocks origin running 0 xs
    → midi_of_blocks origin running 0 xs ++ midi_lines_of (events_of s clock (block_from origin first)) ≡ midi_of_blocks origin running 0 (xs ++ s ∷ [])
midi_more first origin running clock s xs last clock_is =
    ap (λ (b : Bool). midi_of_blocks origin running 0 xs ++ midi_lines_of (events_of s b (block_from origin first))) clock_is
    ∙ sym (midi-snoc origin s running 0 first xs last)

-- a front of a block more
cut_short : (blocks first : ℕ) (pattern given : Pattern) (origin : ℤ) (ages kit : Ages) (running clock : Bool) (s : State) (xs : List State) (sound sound_now sound_then midi midi_now midi_then : Option (List ℕ))
    → first ≡ 0 + length xs * 960 → given ≡ pattern → kit ≡ ages_of_blocks pattern origin ages 0 xs → clock ≡ running_of_blocks origin running 0 xs
    → AreWritten blocks pattern origin ages running xs sound sound_now midi midi_now
    → AppendsFront (samples_bytes (sounds_from given s origin kit first 960)) (midi_lines_of (events_of s clock (block_from origin first))) sound_now sound_then midi_now midi_then
    → AreCutShort blocks pattern origin ages running (xs ++ s ∷ []) sound sound_then midi midi_then
cut_short blocks first pattern given origin ages kit running clock s xs sound sound_now sound_then midi midi_now midi_then last same kit_is clock_is written (inl (part, none)) =
    let front = front_more sound sound_now sound_then _ _ _ (wav_more blocks first pattern given origin ages kit s xs last same kit_is) written.sounded part in
    record {
      sound_bytes = front.0;
      midi_bytes = midi_length origin running xs;
      sounded = front.3;
      told = subst (λ (m : Option (List ℕ)). Appends midi (take (midi_length origin running xs) (midi_of_blocks origin running 0 (xs ++ s ∷ []))) m) (sym none)
          (front_same midi midi_now _ _ _ (midi_more first origin running clock s xs last clock_is) written.told);
      cut = inr (xs, s, refl, inl (front.1, front.2, refl));
    }
cut_short blocks first pattern given origin ages kit running clock s xs sound sound_now sound_then midi midi_now midi_then last same kit_is clock_is written (inr (whole, part)) =
    let front = front_more midi midi_now midi_then _ _ _ (midi_more first origin running clock s xs last clock_is) written.told part in
    record {
      sound_bytes = sound_length blocks pattern origin ages (xs ++ s ∷ []);
      midi_bytes = front.0;
      sounded = front_whole sound sound_then _
          (appends_more sound sound_now sound_then _ _ _ (wav_more blocks first pattern given origin ages kit s xs last same kit_is) written.sounded whole);
      told = front.3;
      cut = inr (xs, s, refl, inr (refl, front.1, front.2));
    }

-- a front of the header
pub cut_header : (blocks : ℕ) (pattern : Pattern) (origin : ℤ) (ages : Ages) (running : Bool) (pass : AudioView) (header : List ℕ) (sound sound_then midi : Option (List ℕ))
    → header ≡ header_of (blocks * 960) → AppendsPrefix sound header sound_then
    → AreCutShortByReads blocks 0 pattern origin ages running pass sound sound_then midi midi
cut_header blocks pattern origin ages running pass header sound sound_then midi is (n, within, part) =
    let all : header ≡ wav_of blocks (sounds_of_blocks pattern origin ages 0 []) = is ∙ sym (headed blocks pattern origin ages) in
    record {
      earlier = pass.seen;
      reads = [];
      seen = sym (append-nil pass.seen);
      each = refl;
      written = record {
        sound_bytes = n;
        midi_bytes = 0;
        sounded = subst (λ bytes. Appends sound (take n bytes) sound_then) all part;
        told = none_appended midi;
        cut = inl (refl, subst (λ (bytes : List ℕ). n ≤ length bytes) all within, refl);
      };
    }

-- ---- the loop

-- so many of the blocks were played, from drums like these on: the last reads of the pass, how the drums are now, and what was appended
pub record IsPlaying (number blocks : ℕ) (pattern : Pattern) (ages : Ages) (running : Bool) (drums : Drums) (pass : AudioView) (sound sound_then midi midi_then : Option (List ℕ)) : Type 0 where
  earlier : List Pair
  reads : List Pair
  seen : pass.seen ≡ earlier ++ reads
  each : length reads ≡ number
  same : drums.pattern ≡ pattern
  kit : drums.kit ≡ ages_of_blocks pattern drums.origin ages 0 (map (shown_of pass.made) reads)
  clock : drums.clock ≡ running_of_blocks drums.origin running 0 (map (shown_of pass.made) reads)
  written : AreWritten blocks pattern drums.origin ages running (map (shown_of pass.made) reads) sound sound_then midi midi_then

pub has_begun : (blocks : ℕ) (pattern : Pattern) (ages : Ages) (running : Bool) (drums : Drums) (pass : AudioView) (header : List ℕ) (sound sound_then midi : Option (List ℕ))
    → drums.pattern ≡ pattern → drums.kit ≡ ages → drums.clock ≡ running → header ≡ header_of (blocks * 960) → Appends sound header sound_then
    → IsPlaying 0 blocks pattern ages running drums pass sound sound_then midi midi
has_begun blocks pattern ages running drums pass header sound sound_then midi same kit clock is wrote = record {
  earlier = pass.seen;
  reads = [];
  seen = sym (append-nil pass.seen);
  each = refl;
  same = same;
  kit = kit;
  clock = clock;
  written = record {
    sounded = subst (λ bytes. Appends sound bytes sound_then) (is ∙ sym (headed blocks pattern drums.origin ages)) wrote;
    told = subst (λ bytes. Appends midi bytes midi) (sym (no_midi drums.origin running)) (none_appended midi);
  };
}

module _ (number blocks first : ℕ) (pattern : Pattern) (ages : Ages) (running : Bool) (drums : Drums) (before after : AudioView) (sound sound_now sound_then midi midi_now midi_then : Option (List ℕ))
    (is : first ≡ number * 960) (made_stays : after.made ≡ before.made) (playing : IsPlaying number blocks pattern ages running drums before sound sound_now midi midi_now) where
  -- what is shown of the reads, by the commits made then
  still_shown : (pair : Pair) → map (shown_of before.made) playing.reads ++ shown_of before.made pair ∷ [] ≡ map (shown_of after.made) (playing.reads ++ pair ∷ [])
  still_shown pair =
      sym (map-append (shown_of before.made) playing.reads (pair ∷ [])) ∙ ap (λ (made : List Commit). map (shown_of made) (playing.reads ++ pair ∷ [])) (sym made_stays)

  next_place : first ≡ 0 + length (map (shown_of before.made) playing.reads) * 960
  next_place = omega (arith, is, playing.each, length-map playing.reads (shown_of before.made))

  next_seen : (pair : Pair) → after.seen ≡ before.seen ++ pair ∷ [] → after.seen ≡ playing.earlier ++ (playing.reads ++ pair ∷ [])
  next_seen pair seen = seen ∙ ap (λ l. l ++ pair ∷ []) playing.seen ∙ append_assoc playing.earlier playing.reads (pair ∷ [])

  next_count : (pair : Pair) → length (playing.reads ++ pair ∷ []) ≡ number + 1
  next_count pair = length-append playing.reads (pair ∷ []) ∙ ap (λ (n : ℕ). n + 1) playing.each

  pub one_more_block : (drums_then : Drums) → drums_then.pattern ≡ drums.pattern → drums_then.origin ≡ drums.origin
      → HasPlayedBlock first drums drums_then before after sound_now sound_then midi_now midi_then
      → IsPlaying (number + 1) blocks pattern ages running drums_then after sound sound_then midi midi_then
  one_more_block drums_then pattern_stays origin_stays block =
      let xs : List State = map (shown_of before.made) playing.reads in
      let s : State = shown_of before.made block.pair in
      let states : List State = map (shown_of after.made) (playing.reads ++ block.pair ∷ []) in
      let shown : xs ++ s ∷ [] ≡ states = still_shown block.pair in
      let origin = drums.origin in
      let kit_is : ages_from drums.pattern s origin drums.kit first 960 ≡ ages_of_blocks pattern drums_then.origin ages 0 states =
      ap (λ (p : Pattern). ages_from p s origin drums.kit first 960) playing.same
      ∙ ap (λ (k : Ages). ages_from pattern s origin k first 960) playing.kit
      ∙ sym (ages-snoc pattern origin s ages 0 first xs next_place)
      ∙ ap (λ (o : ℤ). ages_of_blocks pattern o ages 0 (xs ++ s ∷ [])) (sym origin_stays)
      ∙ ap (λ (l : List State). ages_of_blocks pattern drums_then.origin ages 0 l) shown in
      let clock_is : running_after s drums.clock (block_from origin first) ≡ running_of_blocks drums_then.origin running 0 states =
      ap (λ (b : Bool). running_after s b (block_from origin first)) playing.clock
      ∙ sym (running-snoc origin s running 0 first xs next_place)
      ∙ ap (λ (o : ℤ). running_of_blocks o running 0 (xs ++ s ∷ [])) (sym origin_stays)
      ∙ ap (λ (l : List State). running_of_blocks drums_then.origin running 0 l) shown in
      let written : AreWritten blocks pattern origin ages running (xs ++ s ∷ []) sound sound_then midi midi_then = record {
        sounded = appends_more sound sound_now sound_then _ _ _
            (wav_more blocks first pattern drums.pattern origin ages drums.kit s xs next_place playing.same playing.kit) playing.written.sounded block.sounded;
        told = appends_more midi midi_now midi_then _ _ _ (midi_more first origin running drums.clock s xs next_place playing.clock) playing.written.told block.told;
      } in
      record {
        earlier = playing.earlier;
        reads = playing.reads ++ block.pair ∷ [];
        seen = next_seen block.pair block.seen;
        each = next_count block.pair;
        same = pattern_stays ∙ playing.same;
        kit = block.kit ∙ kit_is;
        clock = block.clock ∙ clock_is;
        written =
            subst (λ (o : ℤ). AreWritten blocks pattern o ages running states sound sound_then midi midi_then) (sym origin_stays)
            (subst (λ (l : List State). AreWritten blocks pattern origin ages running l sound sound_then midi midi_then) shown written);
      }

  -- writing fails in the next block
  pub cut_block : HasCutBlock first drums before after sound_now sound_then midi_now midi_then
      → AreCutShortByReads blocks (number + 1) pattern drums.origin ages running after sound sound_then midi midi_then
  cut_block block =
      let xs : List State = map (shown_of before.made) playing.reads in
      record {
        earlier = playing.earlier;
        reads = playing.reads ++ block.pair ∷ [];
        seen = next_seen block.pair block.seen;
        each = next_count block.pair;
        written =
            subst (λ (l : List State). AreCutShort blocks pattern drums.origin ages running l sound sound_then midi midi_then) (still_shown block.pair)
            (cut_short blocks first pattern drums.pattern drums.origin ages drums.kit running drums.clock (shown_of before.made block.pair) xs
            sound sound_now sound_then midi midi_now midi_then next_place playing.same playing.kit playing.clock playing.written block.front);
      }

-- ---- the ends of the loop

pub none_begun : {P : Type 0} → 0 < 0 → P
none_begun none = absurd (omega (arith, none))

module _ (number blocks : ℕ) (pattern : Pattern) (ages : Ages) (running : Bool) (drums : Drums) (told told_then : Option AudioContents) (pass pass_then : AudioView) (sound sound_then midi midi_then : Option (List ℕ)) where
  pub is_whole : number ≤ blocks → blocks ≤ number → HasBegun drums.origin told pass pass_then → HasAsked (number + 1) told told_then
      → IsPlaying number blocks pattern ages running drums pass_then sound sound_then midi midi_then
      → IsPlayedWhole blocks pattern ages running told told_then pass pass_then sound sound_then midi midi_then
  is_whole within past begun asked playing =
      let is : number ≡ blocks = omega (arith, within, past) in
      record {
        origin = drums.origin;
        begun = begun;
        asked = subst (λ (n : ℕ). HasAsked (n + 1) told told_then) is asked;
        written = record { earlier = playing.earlier; reads = playing.reads; seen = playing.seen; each = playing.each ∙ is; written = playing.written };
      }

  pub is_part : number ≤ blocks → (0 < number → HasBegun drums.origin told pass pass_then) → HasAsked number told told_then
      → IsPlaying number blocks pattern ages running drums pass_then sound sound_then midi midi_then
      → IsPlayedInPart blocks pattern ages running told told_then pass pass_then sound sound_then midi midi_then
  is_part within begun asked playing = record {
    origin = drums.origin;
    given = number;
    few = within;
    begun = begun;
    asked = asked;
    written = record { earlier = playing.earlier; reads = playing.reads; seen = playing.seen; each = playing.each; written = playing.written };
  }

-- ---- the lines of MIDI events

abbrev pub none_of_midi : MidiEvent
none_of_midi = record { at = pos 0; message = Clock }

pub no_lines : (before : Option (List ℕ)) → Appends before (midi_lines_of []) before
unfolding midi_lines_of
no_lines before = none_appended before

module _ (events : List MidiEvent) (k : ℕ) (event : MidiEvent) (line : List ℕ) (before now after : Option (List ℕ))
    (in_list : k < length events) (is : get_or events k none_of_midi ≡ event) (spelled : line ≡ midi_line_of event) (so_far : Appends before (midi_lines_of (take k events)) now) where
  pub one_more_line : Appends now line after → Appends before (midi_lines_of (take (k + 1) events)) after
  unfolding midi_lines_of
  one_more_line next =
      appends_more before now after _ _ _ (texts_more midi_line_of events k none_of_midi event in_list is) so_far (subst (λ bytes. Appends now bytes after) spelled next)

  pub front_of_lines : AppendsPrefix now line after → AppendsPrefix before (midi_lines_of events) after
  unfolding midi_lines_of
  front_of_lines next =
      texts_front midi_line_of events k none_of_midi event before now after in_list is so_far (subst (λ bytes. AppendsPrefix now bytes after) spelled next)

-- ---- one block

pub block_played : (written : Bool) (first : ℕ) (drums drums_then : Drums) (before after : AudioView) (number : ℕ) (state shown : State) (samples : List ℤ) (events : List MidiEvent) (sound sound_then midi midi_then : Option (List ℕ))
    → HasReadAudio before after number state shown
    → samples ≡ sounds_from drums.pattern shown drums.origin drums.kit first 960
    → drums_then.kit ≡ ages_from drums.pattern shown drums.origin drums.kit first 960
    → events ≡ events_of shown drums.clock (block_from drums.origin first)
    → drums_then.clock ≡ running_after shown drums.clock (block_from drums.origin first)
    → OnTrue written (Appends sound (samples_bytes samples) sound_then) → OnTrue written (Appends midi (midi_lines_of events) midi_then)
    → OnTrue written (HasPlayedBlock first drums drums_then before after sound sound_then midi midi_then)
block_played false first drums drums_then before after number state shown samples events sound sound_then midi midi_then read sounds kit events_are clock sounded told = tt
block_played true first drums drums_then before after number state shown samples events sound sound_then midi midi_then read sounds kit events_are clock sounded told =
    let same = shown_by before after number state shown read in
    record {
      pair = (number, read.row);
      seen = read.seen;
      kit = kit ∙ ap (λ (s : State). ages_from drums.pattern s drums.origin drums.kit first 960) same;
      clock = clock ∙ ap (λ (s : State). running_after s drums.clock (block_from drums.origin first)) same;
      sounded = subst (λ (l : List ℤ). Appends sound (samples_bytes l) sound_then) (sounds ∙ ap (λ (s : State). sounds_from drums.pattern s drums.origin drums.kit first 960) same) sounded;
      told = subst (λ (l : List MidiEvent). Appends midi (midi_lines_of l) midi_then) (events_are ∙ ap (λ (s : State). events_of s drums.clock (block_from drums.origin first)) same) told;
    }

pub block_cut : (written : Bool) (first : ℕ) (drums : Drums) (before after : AudioView) (number : ℕ) (state shown : State) (samples : List ℤ) (events : List MidiEvent) (sound sound_then midi midi_then : Option (List ℕ))
    → HasReadAudio before after number state shown
    → samples ≡ sounds_from drums.pattern shown drums.origin drums.kit first 960
    → events ≡ events_of shown drums.clock (block_from drums.origin first)
    → OnFalse written (AppendsFront (samples_bytes samples) (midi_lines_of events) sound sound_then midi midi_then)
    → OnFalse written (HasCutBlock first drums before after sound sound_then midi midi_then)
block_cut true first drums before after number state shown samples events sound sound_then midi midi_then read sounds events_are front = tt
block_cut false first drums before after number state shown samples events sound sound_then midi midi_then read sounds events_are front =
    let same = shown_by before after number state shown read in
    let s : State = shown_of before.made (number, read.row) in
    record {
      pair = (number, read.row);
      seen = read.seen;
      front =
          subst (λ (l : List ℤ). AppendsFront (samples_bytes l) (midi_lines_of (events_of s drums.clock (block_from drums.origin first))) sound sound_then midi midi_then)
          (sounds ∙ ap (λ (state : State). sounds_from drums.pattern state drums.origin drums.kit first 960) same)
          (subst (λ (l : List MidiEvent). AppendsFront (samples_bytes samples) (midi_lines_of l) sound sound_then midi midi_then)
          (events_are ∙ ap (λ (state : State). events_of state drums.clock (block_from drums.origin first)) same) front);
    }

-- ---- a sheet

-- the sound is cut
pub sound_cut : (sent samples lines : List ℕ) (sound sound_then midi : Option (List ℕ)) → sent ≡ samples → AppendsPrefix sound sent sound_then
    → AppendsFront samples lines sound sound_then midi midi
sound_cut sent samples lines sound sound_then midi is part = inl (subst (λ bytes. AppendsPrefix sound bytes sound_then) is part, refl)

-- the sound is out, and the lines are or aren't
pub lines_cut : (told : Bool) (sent samples : List ℕ) (events given : List MidiEvent) (sound sound_then midi midi_then : Option (List ℕ)) → sent ≡ samples → events ≡ given
    → Appends sound sent sound_then → OnFalse told (AppendsPrefix midi (midi_lines_of events) midi_then)
    → OnFalse told (AppendsFront samples (midi_lines_of given) sound sound_then midi midi_then)
lines_cut true sent samples events given sound sound_then midi midi_then is are whole part = tt
lines_cut false sent samples events given sound sound_then midi midi_then is are whole part =
    inr (subst (λ bytes. Appends sound bytes sound_then) is whole, subst (λ (l : List MidiEvent). AppendsPrefix midi (midi_lines_of l) midi_then) are part)
