-- States and commits as rows of eleven words, and back: the one place that says which word is what. Signed numbers are
-- stored in two's complement.
use Rattle.std.specs.Prelude.{ℕ, ℤ, ◌+◌, ◌*◌, ◌/◌, ◌%◌, ◌^◌, ◌==◌, Bool, if◌then◌else◌, List, [], ◌∷◌, slice_index, Option, Some, None}
use Rattle.std.specs.Int.{w64, cast_signed, cast_unsigned, from_be_bytes, to_be_bytes}
use Rattle.lk_base.specs.Rounding.{clipped_of}
use Rattle.lk_base.specs.declared.ids.NodeId.{NodeId}
use Rattle.lk_base.specs.declared.start.ClientStart.{ClientStart}
use Rattle.lk_base.specs.declared.timeline.Timeline.{Timeline}
use Rattle.timeline_math.specs.Tidying.{tidy_of}
use Rattle.client_state.specs.Edits.{quantum_set_of}
use Rattle.client_state.specs.declared.commit.Commit.{Commit}
use Rattle.client_state.specs.declared.state.State.{State}

-- ---- numbers and flags in words

abbrev pub word_of : ℤ → ℕ
word_of z = cast_unsigned w64 z

-- the number in a word, and the same within the limit
abbrev pub number_of_word : ℕ → ℤ
number_of_word word = cast_signed w64 word

abbrev pub clipped_of_word : ℕ → ℤ
clipped_of_word word = clipped_of (number_of_word word)

abbrev pub timeline_of_words : ℕ → ℕ → ℕ → Timeline
timeline_of_words mpb beat time = tidy_of (record { mpb = number_of_word mpb; beat = number_of_word beat; time = number_of_word time })

abbrev pub quantum_of_word : ℕ → ℤ
quantum_of_word word = quantum_set_of (number_of_word word)

-- an id's eight bytes as a number, the first of them weighing most, and back
abbrev pub word_of_id : NodeId → ℕ
word_of_id id = from_be_bytes w64 id.0

abbrev pub id_of_word : ℕ → NodeId
id_of_word word = record { 0 = to_be_bytes w64 word }

-- a flag as a number, and the flag of this weight in a word
abbrev pub flag_of : Bool → ℕ → ℕ
flag_of flag weight = if flag then weight else 0

abbrev pub flag_in : ℕ → ℕ → Bool
flag_in word weight = word / weight % 2 == 1

-- ---- a state

-- playing is 1, sync is 2, and a peer is 4
abbrev pub state_flags_of : State → ℕ
state_flags_of state = flag_of state.start.playing 1 + flag_of state.sync 2 + 4 * state.peers

-- Rule: A state is a row of eleven words, with the flags 1 for playing, 2 for sync and 4 for each peer.
unfoldable pub words_of_state : State → List ℕ
words_of_state state =
    word_of state.timeline.mpb
    ∷ word_of state.timeline.beat
    ∷ word_of state.timeline.time
    ∷ word_of state.start.time
    ∷ word_of state.start.stamp
    ∷ state_flags_of state
    ∷ word_of state.moment
    ∷ state.app
    ∷ state.audio
    ∷ word_of_id state.session
    ∷ word_of state.quantum
    ∷ []

-- Rule: Any row of words is read as a tidy state, as any row is as a tidy commit: what is out of range is clamped or clipped.
unfoldable pub state_of_words : List ℕ → State
state_of_words words = record {
  timeline = timeline_of_words (slice_index words 0) (slice_index words 1) (slice_index words 2);
  start = record {
    playing = flag_in (slice_index words 5) 1;
    time = clipped_of_word (slice_index words 3);
    stamp = clipped_of_word (slice_index words 4);
  };
  sync = flag_in (slice_index words 5) 2;
  peers = slice_index words 5 / 4 % 2 ^ 32;
  moment = clipped_of_word (slice_index words 6);
  app = slice_index words 7;
  audio = slice_index words 8;
  session = id_of_word (slice_index words 9);
  quantum = quantum_of_word (slice_index words 10);
}

-- ---- a commit

-- a timeline is 1, a start is 2, one that plays is 4 more, and a quantum is 8
abbrev pub timeline_flag_of : Option Timeline → ℕ
timeline_flag_of None = 0
timeline_flag_of (Some tl) = 1

abbrev pub start_flags_of : Option ClientStart → ℕ
start_flags_of None = 0
start_flags_of (Some start) = 2 + flag_of start.playing 4

abbrev pub quantum_flag_of : Option ℤ → ℕ
quantum_flag_of None = 0
quantum_flag_of (Some quantum) = 8

-- the words of a number of something that may be absent: 0 then
abbrev pub word_if : {A : Type 0} → (A → ℤ) → Option A → ℕ
word_if number None = 0
word_if number (Some a) = word_of (number a)

-- Rule: A commit is a row of eleven words: flags, tempo, beat origin, time origin, start time, stamp, its own time, three zeros, and the
-- quantum.
unfoldable pub words_of_commit : Commit → List ℕ
words_of_commit commit =
    (timeline_flag_of commit.timeline + start_flags_of commit.start + quantum_flag_of commit.quantum)
    ∷ word_if (λ tl. tl.mpb) commit.timeline
    ∷ word_if (λ tl. tl.beat) commit.timeline
    ∷ word_if (λ tl. tl.time) commit.timeline
    ∷ word_if (λ start. start.time) commit.start
    ∷ word_if (λ start. start.stamp) commit.start
    ∷ word_of commit.at
    ∷ 0
    ∷ 0
    ∷ 0
    ∷ word_if (λ quantum. quantum) commit.quantum
    ∷ []

abbrev pub start_of_words : ℕ → ℕ → ℕ → ClientStart
start_of_words flags time stamp = record { playing = flag_in flags 4; time = clipped_of_word time; stamp = clipped_of_word stamp }

unfoldable pub commit_of_words : List ℕ → Commit
commit_of_words words = record {
  timeline =
      if flag_in (slice_index words 0) 1
      then Some (timeline_of_words (slice_index words 1) (slice_index words 2) (slice_index words 3))
      else None;
  start =
      if flag_in (slice_index words 0) 2
      then Some (start_of_words (slice_index words 0) (slice_index words 4) (slice_index words 5))
      else None;
  quantum = if flag_in (slice_index words 0) 8 then Some (quantum_of_word (slice_index words 10)) else None;
  at = clipped_of_word (slice_index words 6);
}
