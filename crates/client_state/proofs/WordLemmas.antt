-- What is put into words is read back from them.
use Rattle.std.proofs.Common.{◌≡◌, ℕ, ◌+◌, ◌*◌, ◌/◌, ◌%◌, ◌^◌, ◌<◌, ◌==◌, ℤ, Bool, true, false, List, length, All, get_or, Option, Some, None, is_some, if◌then◌else◌, FitsSigned, inl, inr, refl, ap, ◌∙◌, arith}
use Rattle.std.proofs.lemmas.Int.{ints, clamps, to_z-of_z}
use Rattle.std.proofs.lemmas.Bool.{cases_lt}
use Rattle.std.proofs.lemmas.List.{get_or_past}
use Rattle.std.proofs.lemmas.Nat.{be_bytes_8}
use mir.Syntax.{w64}
use Rattle.std.specs.Option.{ForSome}
use Rattle.lk_base.specs.Ranges.{IsQuantum, IsWithinLimit}
use Rattle.lk_base.specs.Timeline.{IsTidy}
use Rattle.lk_base.specs.declared.ids.NodeId.{NodeId}
use Rattle.lk_base.specs.declared.start.ClientStart.{ClientStart}
use Rattle.lk_base.specs.declared.timeline.Timeline.{Timeline}
use Rattle.timeline_math.specs.Tidying.{clamped_of}
use Rattle.client_state.specs.Commit.{IsTidyCommit, IsTidyStart}
use Rattle.client_state.specs.State.{IsId, IsTidyState}
use Rattle.client_state.specs.Words.{word_of, number_of_word, clipped_of_word, quantum_of_word, word_of_id, id_of_word, timeline_of_words, flag_of, flag_in, state_flags_of, timeline_flag_of, start_flags_of, quantum_flag_of, start_of_words, word_if, words_of_state, state_of_words, words_of_commit, commit_of_words}
use Rattle.client_state.specs.declared.commit.Commit.{Commit}
use Rattle.client_state.specs.declared.state.State.{State}
use Rattle.client_state.proofs.CommitLemmas.{one_timeline}

number-back : (z : ℤ) → IsWithinLimit z → number_of_word (word_of z) ≡ z
number-back z within =
    let fits : FitsSigned w64 z = omega (arith, ints) in
    to_z-of_z w64 z fits

clipped-back : (z : ℤ) → IsWithinLimit z → clipped_of_word (word_of z) ≡ z
clipped-back z within =
    let back = number-back z within in
    omega (arith, ints, clamps)

timeline-back : (tl : Timeline) → IsTidy tl → timeline_of_words (word_of tl.mpb) (word_of tl.beat) (word_of tl.time) ≡ tl
timeline-back tl tidy =
    let slowest = tidy.slowest in
    let fastest = tidy.fastest in
    let back = number-back tl.mpb (omega (arith, ints)) in
    let mpb : clamped_of (number_of_word (word_of tl.mpb)) ≡ tl.mpb = omega (arith, ints, clamps) in
    one_timeline (timeline_of_words (word_of tl.mpb) (word_of tl.beat) (word_of tl.time)) tl mpb (clipped-back tl.beat tidy.beat) (clipped-back tl.time tidy.time)

quantum-back : (z : ℤ) → IsQuantum z → quantum_of_word (word_of z) ≡ z
quantum-back z range =
    let low = range.0 in
    let high = range.1 in
    let fits : FitsSigned w64 z = omega (arith, ints) in
    let back = to_z-of_z w64 z fits in
    omega (arith, ints, clamps)

-- ---- an id
byte-small : (bytes : List ℕ) → All (λ byte. byte < 256) bytes → (i : ℕ) → get_or bytes i 0 < 256
byte-small bytes all i = elim (cases_lt i (length bytes)) [ inl lt ↦ all i 0 lt | inr le ↦ rw (get_or_past bytes i 0 le) (omega arith) ]

id-back : (id : NodeId) → IsId id → id_of_word (word_of_id id) ≡ id
id-back id is =
    ap (λ bytes. record { 0 = bytes }) (be_bytes_8 id.0 (word_of_id id) is.0 (byte-small id.0 is.1) refl)

-- ---- flags
flag-set : (word weight : ℕ) → word / weight % 2 ≡ 1 → flag_in word weight ≡ true
flag-set word weight e = ap (λ k. k == 1) e

flag-clear : (word weight : ℕ) → word / weight % 2 ≡ 0 → flag_in word weight ≡ false
flag-clear word weight e = ap (λ k. k == 1) e

abbrev flags_of : Bool → Bool → ℕ → ℕ
flags_of playing sync peers = flag_of playing 1 + flag_of sync 2 + 4 * peers

playing-flag : (playing sync : Bool) (peers : ℕ) → flag_in (flags_of playing sync peers) 1 ≡ playing
playing-flag true true peers = flag-set (flags_of true true peers) 1 (omega arith)
playing-flag true false peers = flag-set (flags_of true false peers) 1 (omega arith)
playing-flag false true peers = flag-clear (flags_of false true peers) 1 (omega arith)
playing-flag false false peers = flag-clear (flags_of false false peers) 1 (omega arith)

sync-flag : (playing sync : Bool) (peers : ℕ) → flag_in (flags_of playing sync peers) 2 ≡ sync
sync-flag true true peers = flag-set (flags_of true true peers) 2 (omega arith)
sync-flag true false peers = flag-clear (flags_of true false peers) 2 (omega arith)
sync-flag false true peers = flag-set (flags_of false true peers) 2 (omega arith)
sync-flag false false peers = flag-clear (flags_of false false peers) 2 (omega arith)

peers-back : (playing sync : Bool) (peers : ℕ) → peers < 2 ^ 32 → flags_of playing sync peers / 4 % 2 ^ 32 ≡ peers
peers-back true true peers lt = omega arith
peers-back true false peers lt = omega arith
peers-back false true peers lt = omega arith
peers-back false false peers lt = omega arith

-- ---- a state
state-equal : (s : State) (tl : Timeline) (playing : Bool) (time stamp : ℤ) (sync : Bool) (peers : ℕ) (moment : ℤ) (session : NodeId) (quantum : ℤ) → tl ≡ s.timeline → playing ≡ s.start.playing → time ≡ s.start.time → stamp ≡ s.start.stamp → sync ≡ s.sync → peers ≡ s.peers → moment ≡ s.moment → session ≡ s.session → quantum ≡ s.quantum → record s { timeline = tl; start = record { playing = playing; time = time; stamp = stamp }; sync = sync; peers = peers; moment = moment; session = session; quantum = quantum } ≡ s
state-equal s tl playing time stamp sync peers moment session quantum e1 e2 e3 e4 e5 e6 e7 e8 e9 =
    rw e1 (rw e2 (rw e3 (rw e4 (rw e5 (rw e6 (rw e7 (rw e8 (rw e9 refl))))))))

-- where the session is read back from its word
pub state-again : (s : State) → IsTidyState s → s.peers < 2 ^ 32 → id_of_word (word_of_id s.session) ≡ s.session → state_of_words (words_of_state s) ≡ s
unfolding state_of_words words_of_state
state-again s tidy few session =
    let flags = state_flags_of s in
    state-equal s (timeline_of_words (word_of s.timeline.mpb) (word_of s.timeline.beat) (word_of s.timeline.time)) (flag_in flags 1) (clipped_of_word (word_of s.start.time)) (clipped_of_word (word_of s.start.stamp)) (flag_in flags 2) (flags / 4 % 2 ^ 32) (clipped_of_word (word_of s.moment)) (id_of_word (word_of_id s.session)) (quantum_of_word (word_of s.quantum))
    (timeline-back s.timeline tidy.timeline)
    (playing-flag s.start.playing s.sync s.peers)
    (clipped-back s.start.time tidy.start)
    (clipped-back s.start.stamp tidy.stamp)
    (sync-flag s.start.playing s.sync s.peers)
    (peers-back s.start.playing s.sync s.peers few)
    (clipped-back s.moment tidy.moment)
    session
    (quantum-back s.quantum tidy.quantum)

pub state-back : (s : State) → IsTidyState s → s.peers < 2 ^ 32 → IsId s.session → state_of_words (words_of_state s) ≡ s
state-back s tidy few id = state-again s tidy few (id-back s.session id)

-- ---- a commit
start-back : (flags : ℕ) (start : ClientStart) → IsTidyStart start → flag_in flags 4 ≡ start.playing → start_of_words flags (word_of start.time) (word_of start.stamp) ≡ start
start-back flags start tidy playing =
    rw playing (rw (clipped-back start.time tidy.time) (rw (clipped-back start.stamp tidy.stamp) refl))

-- the flags by what is there: a timeline, a start, and whether it plays, and a quantum
abbrev commit_flags : Bool → Bool → Bool → Bool → ℕ
commit_flags timeline start playing quantum = flag_of timeline 1 + flag_of start (2 + flag_of playing 4) + flag_of quantum 8

flag-1 : (timeline start playing quantum : Bool) → flag_in (commit_flags timeline start playing quantum) 1 ≡ timeline
flag-1 true true true true = refl
flag-1 true true true false = refl
flag-1 true true false true = refl
flag-1 true true false false = refl
flag-1 true false true true = refl
flag-1 true false true false = refl
flag-1 true false false true = refl
flag-1 true false false false = refl
flag-1 false true true true = refl
flag-1 false true true false = refl
flag-1 false true false true = refl
flag-1 false true false false = refl
flag-1 false false true true = refl
flag-1 false false true false = refl
flag-1 false false false true = refl
flag-1 false false false false = refl

flag-2 : (timeline start playing quantum : Bool) → flag_in (commit_flags timeline start playing quantum) 2 ≡ start
flag-2 true true true true = refl
flag-2 true true true false = refl
flag-2 true true false true = refl
flag-2 true true false false = refl
flag-2 true false true true = refl
flag-2 true false true false = refl
flag-2 true false false true = refl
flag-2 true false false false = refl
flag-2 false true true true = refl
flag-2 false true true false = refl
flag-2 false true false true = refl
flag-2 false true false false = refl
flag-2 false false true true = refl
flag-2 false false true false = refl
flag-2 false false false true = refl
flag-2 false false false false = refl

flag-4 : (timeline playing quantum : Bool) → flag_in (commit_flags timeline true playing quantum) 4 ≡ playing
flag-4 true true true = refl
flag-4 true true false = refl
flag-4 true false true = refl
flag-4 true false false = refl
flag-4 false true true = refl
flag-4 false true false = refl
flag-4 false false true = refl
flag-4 false false false = refl

flag-8 : (timeline start playing quantum : Bool) → flag_in (commit_flags timeline start playing quantum) 8 ≡ quantum
flag-8 true true true true = refl
flag-8 true true true false = refl
flag-8 true true false true = refl
flag-8 true true false false = refl
flag-8 true false true true = refl
flag-8 true false true false = refl
flag-8 true false false true = refl
flag-8 true false false false = refl
flag-8 false true true true = refl
flag-8 false true true false = refl
flag-8 false true false true = refl
flag-8 false true false false = refl
flag-8 false false true true = refl
flag-8 false false true false = refl
flag-8 false false false true = refl
flag-8 false false false false = refl

abbrev flags_in : Option Timeline → Option ClientStart → Option ℤ → ℕ
flags_in timeline start quantum = timeline_flag_of timeline + start_flags_of start + quantum_flag_of quantum

abbrev plays_in : Option ClientStart → Bool
plays_in None = false
plays_in (Some start) = start.playing

flags-are : (timeline : Option Timeline) (start : Option ClientStart) (quantum : Option ℤ) → flags_in timeline start quantum ≡ commit_flags (is_some timeline) (is_some start) (plays_in start) (is_some quantum)
flags-are None None None = refl
flags-are None None (Some q) = refl
flags-are None (Some start) None = refl
flags-are None (Some start) (Some q) = refl
flags-are (Some tl) None None = refl
flags-are (Some tl) None (Some q) = refl
flags-are (Some tl) (Some start) None = refl
flags-are (Some tl) (Some start) (Some q) = refl

-- the timeline, the start and the quantum of a commit, read from its words
timeline_if-back : (flags : ℕ) (timeline : Option Timeline) → flag_in flags 1 ≡ is_some timeline → ForSome timeline IsTidy → (if flag_in flags 1 then Some (timeline_of_words (word_if (λ tl. tl.mpb) timeline) (word_if (λ tl. tl.beat) timeline) (word_if (λ tl. tl.time) timeline)) else None) ≡ timeline
timeline_if-back flags None there tidy = ap (λ b. if b then Some (timeline_of_words 0 0 0) else None) there
timeline_if-back flags (Some tl) there tidy =
    ap (λ b. if b then Some (timeline_of_words (word_of tl.mpb) (word_of tl.beat) (word_of tl.time)) else None) there
    ∙ ap (λ z. Some z) (timeline-back tl (tidy tl refl))

start_if-back : (flags : ℕ) (start : Option ClientStart) → flag_in flags 2 ≡ is_some start → ((some : ClientStart) → start ≡ Some some → flag_in flags 4 ≡ some.playing) → ForSome start IsTidyStart → (if flag_in flags 2 then Some (start_of_words flags (word_if (λ some. some.time) start) (word_if (λ some. some.stamp) start)) else None) ≡ start
start_if-back flags None there playing tidy = ap (λ b. if b then Some (start_of_words flags 0 0) else None) there
start_if-back flags (Some start) there playing tidy =
    ap (λ b. if b then Some (start_of_words flags (word_of start.time) (word_of start.stamp)) else None) there
    ∙ ap (λ z. Some z) (start-back flags start (tidy start refl) (playing start refl))

quantum_if-back : (flags : ℕ) (quantum : Option ℤ) → flag_in flags 8 ≡ is_some quantum → ForSome quantum IsQuantum → (if flag_in flags 8 then Some (quantum_of_word (word_if (λ q. q) quantum)) else None) ≡ quantum
quantum_if-back flags None there range = ap (λ b. if b then Some (quantum_of_word 0) else None) there
quantum_if-back flags (Some quantum) there range =
    ap (λ b. if b then Some (quantum_of_word (word_of quantum)) else None) there
    ∙ ap (λ z. Some z) (quantum-back quantum (range quantum refl))

playing-there : (timeline : Option Timeline) (start : Option ClientStart) (quantum : Option ℤ) (some : ClientStart) → start ≡ Some some → flag_in (flags_in timeline start quantum) 4 ≡ some.playing
playing-there timeline None quantum some is = absurd (cc)
playing-there timeline (Some start) quantum some is =
    let same : start ≡ some = cc in
    ap (λ flags. flag_in flags 4) (flags-are timeline (Some start) quantum)
    ∙ flag-4 (is_some timeline) start.playing (is_some quantum)
    ∙ ap (λ s. s.playing) same

commit-equal : (commit : Commit) (timeline : Option Timeline) (start : Option ClientStart) (quantum : Option ℤ) (at : ℤ) → timeline ≡ commit.timeline → start ≡ commit.start → quantum ≡ commit.quantum → at ≡ commit.at → record commit { timeline = timeline; start = start; quantum = quantum; at = at } ≡ commit
commit-equal commit timeline start quantum at e1 e2 e3 e4 = rw e1 (rw e2 (rw e3 (rw e4 refl)))

pub commit-back : (commit : Commit) → IsTidyCommit commit → commit_of_words (words_of_commit commit) ≡ commit
unfolding commit_of_words words_of_commit
commit-back commit tidy =
    let words = words_of_commit commit in
    let flags = flags_in commit.timeline commit.start commit.quantum in
    let are = flags-are commit.timeline commit.start commit.quantum in
    let timeline = is_some commit.timeline in
    let start = is_some commit.start in
    let playing = plays_in commit.start in
    let quantum = is_some commit.quantum in
    commit-equal commit (commit_of_words words).timeline (commit_of_words words).start (commit_of_words words).quantum (commit_of_words words).at
    (timeline_if-back flags commit.timeline (ap (λ f. flag_in f 1) are ∙ flag-1 timeline start playing quantum) tidy.timeline)
    (start_if-back flags commit.start (ap (λ f. flag_in f 2) are ∙ flag-2 timeline start playing quantum) (playing-there commit.timeline commit.start commit.quantum) tidy.start)
    (quantum_if-back flags commit.quantum (ap (λ f. flag_in f 8) are ∙ flag-8 timeline start playing quantum) tidy.quantum)
    (clipped-back commit.at tidy.at)
