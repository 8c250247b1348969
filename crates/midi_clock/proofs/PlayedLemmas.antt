-- Blocks that are played one after another, and what is sent of them.
use Rattle.std.proofs.Common.{◌≡◌, ℕ, ◌+◌, ◌*◌, ◌^◌, ◌<◌, ◌≤◌, ℤ, pos, ◌+ℤ◌, ◌-ℤ◌, ◌*ℤ◌, ◌≤ℤ◌, FitsSigned, Bool, false, List, [], ◌∷◌, ◌++◌, length, map, take, All, Option, refl, ap, sym, subst, ◌∙◌, arith, append_assoc, append-nil, length-append, to_z, of_z, w64}
use Rattle.std.proofs.lemmas.Int.{ints, to_z-of_z}
use Rattle.std.proofs.lemmas.List.{map-append, length-map}
use Rattle.std.proofs.lemmas.List.Elements.{All-same}
use Rattle.audio_handoff.specs.Cell.{Pair}
use Rattle.client_state.specs.Words.{state_of_words}
use Rattle.client_state.specs.declared.state.State.{State}
use Rattle.lk_base.specs.Ranges.{IsWithinLimit}
use Rattle.lk_base.specs.declared.block.Block.{Block}
use Rattle.lk_outside.specs.Faults.{Rose}
use Rattle.lk_outside.specs.Sink.{Appends}
use Rattle.link_midi.specs.Events.{Part, all_events_of, events_from, events_of, running_after, span}
use Rattle.link_midi.specs.Messages.{IsMessage, bytes_of}
use Rattle.link_midi.specs.declared.message.MidiEvent.{MidiEvent}
use Rattle.link_shared.specs.Audio.{AudioView, HasReadAudio}
use Rattle.midi_clock.specs.Player.{AreCutAt, CanPlay, CountsMore, HasOnlyRead, IsCutOff, IsPlayedWhole}
use Rattle.midi_clock.specs.Sent.{block_at, counts_of, messages_of, midi_bytes_of, parts_from}
use Rattle.midi_clock.specs.declared.counts.Counts.{Counts}
use Rattle.midi_clock.proofs.SentLemmas.{appends_more, bytes-append, none_sent_yet}

-- ---- one block

-- a number, as it is stored
abbrev pub stored : ℤ → ℤ
stored z = to_z w64 (of_z w64 z)

fits : (z : ℤ) → pos 0 ≤ℤ z → z ≤ℤ pos (2 ^ 57) → FitsSigned w64 z
fits z first last = grind (arith, ints)

pub is_stored : (z value : ℤ) → z ≡ value → pos 0 ≤ℤ value → value ≤ℤ pos (2 ^ 57) → stored z ≡ value
is_stored z value is first last = ap stored is ∙ to_z-of_z w64 value (fits value first last)

pub origin_stored : (origin : ℤ) (blocks : ℕ) → CanPlay origin blocks → stored origin ≡ origin
origin_stored origin blocks ready = is_stored origin origin refl ready.first (omega (arith, ints, ready.last))

-- its beginning, as it is computed and stored
pub begins_at : (origin : ℤ) (number blocks : ℕ) (n : ℤ) → CanPlay origin blocks → number ≤ blocks → n ≡ pos number
    → stored (stored origin +ℤ stored (pos 2_000 *ℤ stored n)) ≡ stored origin +ℤ pos (number * 2_000)
begins_at origin number blocks n ready within is =
    let few : number ≤ 43_200_000 = omega (arith, within, ready.few) in
    let first : stored origin ≡ origin = origin_stored origin blocks ready in
    let count : stored n ≡ pos number = is_stored n (pos number) is (omega (arith, ints)) (omega (arith, ints, few)) in
    let product : pos 2_000 *ℤ pos number ≡ pos (number * 2_000) = omega (arith, ints) in
    let behind : stored (pos 2_000 *ℤ stored n) ≡ pos (number * 2_000) =
    is_stored (pos 2_000 *ℤ stored n) (pos (number * 2_000)) (ap (λ (m : ℤ). pos 2_000 *ℤ m) count ∙ product) (omega (arith, ints)) (omega (arith, ints, few)) in
    is_stored _ (origin +ℤ pos (number * 2_000)) (ap (λ (t : ℤ). t +ℤ stored (pos 2_000 *ℤ stored n)) first ∙ ap (λ (t : ℤ). origin +ℤ t) behind)
    (omega (arith, ints, ready.first)) (omega (arith, ints, ready.last, few))
    ∙ ap (λ (t : ℤ). t +ℤ pos (number * 2_000)) (sym first)

before_range : (start : ℤ) → (pos 0 ≤ℤ start) × (start ≤ℤ pos (2 ^ 57)) → IsWithinLimit (start -ℤ pos 1)
before_range start range = omega (arith, ints, range.0, range.1)

end_range : (start : ℤ) → (pos 0 ≤ℤ start) × (start ≤ℤ pos (2 ^ 57)) → IsWithinLimit (start +ℤ pos 2_000)
end_range start range = omega (arith, ints, range.0, range.1)

-- its times lie within the limit, as its beginning is stored
pub before_within : (start : ℤ) → (pos 0 ≤ℤ start) × (start ≤ℤ pos (2 ^ 57)) → IsWithinLimit (to_z w64 (of_z w64 start) -ℤ pos 1)
before_within start range = subst (λ (t : ℤ). IsWithinLimit (t -ℤ pos 1)) (sym (is_stored start start refl range.0 range.1)) (before_range start range)

pub end_within : (start : ℤ) → (pos 0 ≤ℤ start) × (start ≤ℤ pos (2 ^ 57)) → IsWithinLimit (to_z w64 (of_z w64 start) +ℤ pos 2_000)
end_within start range = subst (λ (t : ℤ). IsWithinLimit (t +ℤ pos 2_000)) (sym (is_stored start start refl range.0 range.1)) (end_range start range)

-- what the law says of all parts holds of a block
pub block_messages : ((running : Bool) (parts : List Part) → All (λ event. IsMessage event.message) (all_events_of running parts))
    → (state : State) (running : Bool) (time : ℤ) (n : ℕ) (sent : List MidiEvent)
    → sent ≡ events_from state running time n → All (λ event. IsMessage event.message) sent
unfolding all_events_of
block_messages law state running time n sent is =
    All-same (λ event. IsMessage event.message) sent (events_from state running time n ++ []) (is ∙ sym (append-nil (events_from state running time n)))
    (law running (record { state = state; block = span time n } ∷ []))

-- ---- what is read

pub read_none : (pass : AudioView) → HasOnlyRead pass pass
read_none pass = record { seen = ([], sym (append-nil pass.seen)); never_falls = λ never. never; made = refl }

pub read_on : (before pass after : AudioView) (number : ℕ) (state shown : State) → HasOnlyRead before pass → HasReadAudio pass after number state shown → HasOnlyRead before after
read_on before pass after number state shown only read =
    let last : List Pair = (number, read.row) ∷ [] in
    record {
      seen = (only.seen.0 ++ last, read.seen ∙ ap (λ (l : List Pair). l ++ last) only.seen.1 ∙ append_assoc before.seen only.seen.0 last);
      never_falls = λ _. read.never_falls;
      made = read.commits_stay ∙ only.made;
    }

-- ---- one block more

abbrev state_of : Pair → State
state_of pair = state_of_words pair.1

abbrev part_at : ℤ → ℕ → State → Part
part_at origin number state = record { state = state; block = block_at origin number }

abbrev parts_of : ℤ → List Pair → List Part
parts_of origin reads = parts_from origin 0 (map state_of reads)

-- whether the MIDI clock runs after parts
abbrev running_of : Bool → List Part → Bool
running_of running [] = running
running_of running (part ∷ parts) = running_of (running_after part.state running part.block) parts

parts_from-append : (origin : ℤ) (state : State) (first last : ℕ) (xs : List State) → last ≡ first + length xs
    → parts_from origin first (xs ++ state ∷ []) ≡ parts_from origin first xs ++ part_at origin last state ∷ []
unfolding parts_from
parts_from-append origin state first last [] e =
    let same : first ≡ last = omega (arith, e) in
    ap (λ (n : ℕ). part_at origin n state ∷ []) same
parts_from-append origin state first last (x ∷ xs) e =
    ap (λ (l : List Part). part_at origin first x ∷ l) (parts_from-append origin state (first + 1) last xs (omega (arith, e)))

parts_of-append : (origin : ℤ) (reads : List Pair) (pair : Pair)
    → parts_of origin (reads ++ pair ∷ []) ≡ parts_of origin reads ++ part_at origin (length reads) (state_of pair) ∷ []
parts_of-append origin reads pair =
    ap (parts_from origin 0) (map-append state_of reads (pair ∷ []))
    ∙ parts_from-append origin (state_of pair) 0 (length reads) (map state_of reads) (omega (arith, length-map reads state_of))

all_events_of-append : (part : Part) (running : Bool) (parts : List Part)
    → all_events_of running (parts ++ part ∷ []) ≡ all_events_of running parts ++ events_of part.state (running_of running parts) part.block
unfolding all_events_of
all_events_of-append part running [] = append-nil (events_of part.state running part.block)
all_events_of-append part running (p ∷ parts) =
    let here = events_of p.state running p.block in
    let then = running_after p.state running p.block in
    ap (λ (l : List MidiEvent). here ++ l) (all_events_of-append part then parts)
    ∙ sym (append_assoc here (all_events_of then parts) (events_of part.state (running_of then parts) part.block))

running_of-append : (part : Part) (running : Bool) (parts : List Part)
    → running_of running (parts ++ part ∷ []) ≡ running_after part.state (running_of running parts) part.block
running_of-append part running [] = refl
running_of-append part running (p ∷ parts) = running_of-append part (running_after p.state running p.block) parts

-- ---- the loop

pub rose_from : (a b c : ℕ) → b ≡ a → Rose b c → Rose a c
rose_from a b c same rose = subst (λ (n : ℕ). Rose n c) same rose

-- so many of the blocks were played: what the pass read of them, whether the MIDI clock runs now, what was appended, and what was counted
pub record IsPlaying (number : ℕ) (origin : ℤ) (running : Bool) (first pass : AudioView) (midi midi_then : Option (List ℕ)) (counts : Counts) : Type 0 where
  reads : List Pair
  seen : pass.seen ≡ first.seen ++ reads
  each : length reads ≡ number
  clock : running ≡ running_of false (parts_of origin reads)
  few : length (messages_of origin reads) ≤ 404 * number
  sent : Appends midi (midi_bytes_of (messages_of origin reads)) midi_then
  counted : counts ≡ counts_of (messages_of origin reads)

pub has_begun : (origin : ℤ) (running : Bool) (pass : AudioView) (midi : Option (List ℕ)) (counts : Counts)
    → running ≡ false → counts ≡ counts_of [] → IsPlaying 0 origin running pass pass midi midi counts
unfolding all_events_of parts_from
has_begun origin running pass midi counts stopped none = record {
  reads = [];
  seen = sym (append-nil pass.seen);
  each = refl;
  clock = stopped;
  few = omega arith;
  sent = none_sent_yet midi;
  counted = none;
}

module _ (number : ℕ) (origin start : ℤ) (running : Bool) (first before after : AudioView) (midi midi_now midi_then : Option (List ℕ)) (counts counts_then : Counts)
    (events : List MidiEvent) (place : ℕ) (state shown : State)
    (playing : IsPlaying number origin running first before midi midi_now counts) (read : HasReadAudio before after place state shown)
    (begins : start ≡ origin +ℤ pos (number * 2_000)) (events_are : events ≡ events_of state running (span start 2_000)) where
  abbrev pair : Pair
  pair = (place, read.row)

  abbrev messages : List MidiEvent
  messages = messages_of origin playing.reads

  next_seen : after.seen ≡ first.seen ++ (playing.reads ++ pair ∷ [])
  next_seen = read.seen ∙ ap (λ (l : List Pair). l ++ pair ∷ []) playing.seen ∙ append_assoc first.seen playing.reads (pair ∷ [])

  -- the block of the read is the next one
  same_block : block_at origin (length playing.reads) ≡ span start 2_000
  same_block = ap (block_at origin) playing.each ∙ ap (λ (t : ℤ). span t 2_000) (sym begins)

  next_messages : messages_of origin (playing.reads ++ pair ∷ []) ≡ messages ++ events
  next_messages =
      ap (all_events_of false) (parts_of-append origin playing.reads pair)
      ∙ all_events_of-append (part_at origin (length playing.reads) (state_of pair)) false (parts_of origin playing.reads)
      ∙ ap (λ (b : Bool). messages ++ events_of (state_of pair) b (block_at origin (length playing.reads))) (sym playing.clock)
      ∙ ap (λ (block : Block). messages ++ events_of (state_of pair) running block) same_block
      ∙ ap (λ (s : State). messages ++ events_of s running (span start 2_000)) (sym read.state_is)
      ∙ ap (λ (l : List MidiEvent). messages ++ l) (sym events_are)

  next_running : running_after state running (span start 2_000) ≡ running_of false (parts_of origin (playing.reads ++ pair ∷ []))
  next_running =
      ap (λ (s : State). running_after s running (span start 2_000)) read.state_is
      ∙ ap (λ (block : Block). running_after (state_of pair) running block) (sym same_block)
      ∙ ap (λ (b : Bool). running_after (state_of pair) b (block_at origin (length playing.reads))) playing.clock
      ∙ sym (running_of-append (part_at origin (length playing.reads) (state_of pair)) false (parts_of origin playing.reads))
      ∙ ap (running_of false) (sym (parts_of-append origin playing.reads pair))

  pub one_more_block : (running_then : Bool) → running_then ≡ running_after state running (span start 2_000) → length events ≤ 404
      → Appends midi_now (midi_bytes_of events) midi_then → CountsMore events counts counts_then
      → IsPlaying (number + 1) origin running_then first after midi midi_then counts_then
  one_more_block running_then runs short sent counted = record {
    reads = playing.reads ++ pair ∷ [];
    seen = next_seen;
    each = length-append playing.reads (pair ∷ []) ∙ ap (λ (n : ℕ). n + 1) playing.each;
    clock = runs ∙ next_running;
    few = omega (arith, ap length next_messages, length-append messages events, short, playing.few);
    sent = appends_more midi midi_now midi_then _ _ _ (sym (ap midi_bytes_of next_messages ∙ bytes-append messages events)) playing.sent sent;
    counted = counted messages playing.counted ∙ ap counts_of (sym next_messages);
  }

  -- a message of the next block can't be written
  pub cut_block : (from : ℤ) (blocks : ℕ) (here : List MidiEvent) → origin ≡ from → number < blocks → AreCutAt events midi_now midi_then here → CountsMore here counts counts_then
      → IsCutOff blocks from first after midi midi_then counts_then
  cut_block from blocks here is within cut counted =
      let front : List ℕ = take cut.front (bytes_of cut.failed.message) in
      subst (λ (o : ℤ). IsCutOff blocks o first after midi midi_then counts_then) is record {
        reads = playing.reads;
        last = pair;
        seen = next_seen;
        few = omega (arith, playing.each, within);
        here = here;
        failed = cut.failed;
        rest = cut.rest;
        split = next_messages ∙ ap (λ (l : List MidiEvent). messages ++ l) cut.split ∙ sym (append_assoc messages here (cut.failed ∷ cut.rest));
        front = cut.front;
        within = cut.within;
        sent = appends_more midi midi_now midi_then _ _ _
            (sym (append_assoc (midi_bytes_of messages) (midi_bytes_of here) front) ∙ ap (λ (l : List ℕ). l ++ front) (sym (bytes-append messages here)))
            playing.sent cut.sent;
        counted = counted messages playing.counted;
      }

module _ (number blocks : ℕ) (origin : ℤ) (running : Bool) (first pass : AudioView) (midi midi_then : Option (List ℕ)) (counts : Counts)
    (playing : IsPlaying number origin running first pass midi midi_then counts) where
  -- messages can be counted
  pub has_room : (events : List MidiEvent) → number < blocks → blocks ≤ 43_200_000 → length events ≤ 404
      → (sent : List MidiEvent) × (counts ≡ counts_of sent) × (length sent + length events < 2 ^ 63)
  has_room events within some short = (messages_of origin playing.reads, playing.counted, omega (arith, playing.few, within, some, short))

  pub is_whole : (from : ℤ) → origin ≡ from → number ≤ blocks → blocks ≤ number → IsPlayedWhole blocks from first pass midi midi_then counts
  is_whole from is within past =
      let all : number ≡ blocks = omega (arith, within, past) in
      subst (λ (o : ℤ). IsPlayedWhole blocks o first pass midi midi_then counts) is record {
        reads = playing.reads;
        seen = playing.seen;
        each = playing.each ∙ all;
        sent = playing.sent;
        counted = playing.counted;
      }
