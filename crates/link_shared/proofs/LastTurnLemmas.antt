-- The last turn, from what its calls promise.
use Rattle.std.proofs.Common.{Vec, ◌≡◌, ℕ, ℤ, ◌+◌, Bool, false, ◌||◌, List, [], ◌∷◌, ◌++◌, length, map, drop, All, sym, ap, ◌∙◌, subst, arith}
use Rattle.std.proofs.lemmas.List.{length-map}
use Rattle.std.proofs.lemmas.List.Elements.{All-weaker}
use mathlib.Core.Option.{some}
use lib.ListN.{get_elem?}
use Rattle.atomic_table.proofs.Lists.{at_longer}
use Rattle.audio_handoff.specs.Cell.{Pair, Grows, WereMade, IsLast}
use Rattle.client_state.specs.Words.{commit_of_words}
use Rattle.client_state.specs.declared.commit.Commit.{Commit}
use Rattle.client_state.specs.declared.state.State.{State}
use Rattle.link_node.specs.Config.{ConfigValue}
use Rattle.link_node.specs.Event.{EventValue, End, SendingValue, event_value}
use Rattle.link_node.specs.declared.event.Event.{Event}
use Rattle.link_node.specs.Opening.{opened}
use Rattle.link_node.specs.Runs.{AreFitting, published_of}
use Rattle.link_shared.specs.Audio.{AudioView}
use Rattle.link_shared.specs.Draining.{HasDrained, WasHeard}
use Rattle.link_shared.specs.Ending.{app_events, WerePublished, HasHeard, HasEnded}
use Rattle.link_shared.specs.Hub.{HubView, opening_of, machine_of, read_events}
use Rattle.link_shared.specs.Journal.{IsOffered, AreCarried, app_commits_in, last_audio_in}
use Rattle.link_shared.specs.Keeper.{AreFirstOf, WereRead}
use Rattle.link_shared.specs.Passes.{AppView}
use Rattle.link_shared.proofs.JournalLemmas.{offered_both}
use Rattle.link_shared.proofs.EndingLemmas.{fitting_of, carried_of, last_taken_of, taken_begin_of, all_taken_of}

-- ---- what was offered

pub record AreOffers (before : HubView) (now : ℤ) (last : Pair) (popped_then : List Commit) (events : List EventValue) (sends : List SendingValue) (full : Bool) : Type 0 where
  pub rest : List Commit
  pub popped_are : popped_then ≡ before.popped ++ rest
  pub offered : IsOffered (opening_of before) before.most ((read_events now (machine_of before).audio last ++ app_events now rest) ++ End now ∷ []) before.journal events [] sends full

-- the audio commit, the applications' commits, and the end, each while the config and the opening moment have stayed
pub offers_of : (before : HubView) (now now' : ℤ) (last : Pair) (c1 c2 : ConfigValue) (a1 a2 : ℤ) (m1 m2 : ℕ) (popped popped_then : List Commit) (j1 j2 events : List EventValue) (s0 s1 s2 sends : List SendingValue) (f1 f2 f3 : Bool)
    → now' ≡ now → s0 ≡ [] → s1 ≡ s0 → s2 ≡ [] → c1 ≡ before.config → a1 ≡ before.opened_at → m1 ≡ before.most → c2 ≡ c1 → a2 ≡ a1 → m2 ≡ m1 → popped ≡ before.popped
    → IsOffered (opening_of before) before.most (read_events now' (machine_of before).audio last) before.journal j1 s0 s1 f1
    → HasDrained (opened c1 a1) m1 now' popped popped_then j1 j2 f2
    → IsOffered (opened c2 a2) m2 (End now' ∷ []) j2 events s2 sends f3
    → AreOffers before now last popped_then events sends ((f1 || f2) || f3)
offers_of before now now' last c1 c2 a1 a2 m1 m2 popped popped_then j1 j2 events s0 s1 s2 sends f1 f2 f3 now_is s0_is s1_is s2_is c1_is a1_is m1_is c2_is a2_is m2_is popped_is first second third =
    let read : List EventValue = read_events now (machine_of before).audio last in
    let one : IsOffered (opening_of before) before.most read before.journal j1 [] [] f1 =
    subst (λ (x : ℤ × List SendingValue × List SendingValue). IsOffered (opening_of before) before.most (read_events x.0 (machine_of before).audio last) before.journal j1 x.1 x.2 f1)
    (λ k. (now_is k, s0_is k, (s1_is ∙ s0_is) k)) first in
    let two : HasDrained (opening_of before) before.most now before.popped popped_then j1 j2 f2 =
    subst (λ (x : ConfigValue × ℤ × ℕ × List Commit × ℤ). HasDrained (opened x.0 x.1) x.2 x.4 x.3 popped_then j1 j2 f2) (λ k. (c1_is k, a1_is k, m1_is k, popped_is k, now_is k)) second in
    let three : IsOffered (opening_of before) before.most (End now ∷ []) j2 events [] sends f3 =
    subst (λ (x : ConfigValue × ℤ × ℕ × ℤ × List SendingValue). IsOffered (opened x.0 x.1) x.2 (End x.3 ∷ []) j2 events x.4 sends f3)
    (λ k. ((c2_is ∙ c1_is) k, (a2_is ∙ a1_is) k, (m2_is ∙ m1_is) k, now_is k, s2_is k)) third in
    let all : IsOffered (opening_of before) before.most ((read ++ app_events now two.rest) ++ End now ∷ []) before.journal events [] sends ((f1 || f2) || f3) =
    offered_both (opening_of before) before.most (read ++ app_events now two.rest) (End now ∷ []) before.journal j2 events [] [] sends (f1 || f2) f3
    (offered_both (opening_of before) before.most read (app_events now two.rest) before.journal j1 j2 [] [] [] f1 f2 one two.offered) three in
    record {
      rest = two.rest;
      popped_are = two.popped_are;
      offered = all;
    }

-- ---- what the applications knew

first_published : (published : List State) (seen all : List Pair) → Grows seen all → WerePublished published all → WerePublished published seen
first_published published seen all grows were k pair e = were k pair (subst (λ (l : List Pair). get_elem? l k ≡ some pair) (sym grows.1) (at_longer seen grows.0 k pair e))

all_heard : (published : List State) (seen : List Pair) (pushed : List Commit) (total : ℕ) (passes : List AppView) → WerePublished published seen → total ≡ length pushed
    → All (WasHeard seen pushed total) passes → All (HasHeard published pushed) passes
all_heard published seen pushed total passes were counted =
    All-weaker (WasHeard seen pushed total) (HasHeard published pushed)
    (λ pass heard. record { seen = first_published published pass.seen seen heard.seen_begins were; begins = heard.pushed_begins; sole = λ sole. heard.sole_made sole ∙ counted })
    passes

-- ---- all of it

-- what is known of the hub's journal before, of the tokens, and of what was offered
pub record IsEnding (before : HubView) (audio : AudioView) (now : ℤ) (last : Pair) (rows : List (List ℕ)) (events : List EventValue) (published : List State) (seen : List Pair) (pushed : List Commit) (total : ℕ) (sends : List SendingValue) (full : Bool) : Type 0 where
  pub offers : AreOffers before now last pushed events sends full
  pub fitting : ∥ AreFitting (length before.config.gates) 0 0 events ∥₁
  pub first : AreFirstOf before.most (length before.journal) (app_commits_in before.journal) before.popped
  pub counted : (machine_of before).audio ≡ last_audio_in 0 before.journal
  pub read : WereRead before.reads before.journal
  pub made : WereMade rows before.reads
  pub is_last : IsLast rows last.0 last.1
  pub audio_made : audio.made ≡ map commit_of_words (drop 1 rows)
  pub heard : All (WasHeard seen pushed total) before.handed
  pub total_is : total ≡ length pushed

last_number : (rows : List (List ℕ)) (number : ℕ) → length rows ≡ number + 1 → number ≡ length (map commit_of_words (drop 1 rows))
last_number [] number e = absurd (omega arith)
last_number (r ∷ rows) number e = omega (arith, length-map rows commit_of_words)

pub has_ended : (before : HubView) (audio : AudioView) (now : ℤ) (last : Pair) (rows : List (List ℕ)) (events : List EventValue) (published : List State) (seen : List Pair) (pushed : List Commit) (total : ℕ) (sends : List SendingValue) (full : Bool)
    → published ≡ published_of before.config before.opened_at events → WerePublished published seen → WerePublished published audio.seen
    → IsEnding before audio now last rows events published seen pushed total sends full → HasEnded before audio now events published sends full
has_ended before audio now last rows events published seen pushed total sends full published_are app_seen audio_seen e =
    let fits : AreFitting (length before.config.gates) 0 0 events = fitting_of (length before.config.gates) events e.fitting in
    let made : List Commit = map commit_of_words (drop 1 rows) in
    let number : last.0 ≡ length made = last_number rows last.0 e.is_last.nothing_later in
    let carried : AreCarried made events =
    carried_of (opening_of before) before.most (length before.config.gates) (machine_of before).audio now last e.offers.rest before.journal events sends full rows before.reads
    e.offers.offered fits e.made e.read e.is_last.is_made in
    let last_taken : full ≡ false → last_audio_in 0 events ≡ length made =
    last_taken_of (opening_of before) before.most (machine_of before).audio now last e.offers.rest before.journal events sends full made e.offers.offered e.counted carried number in
    record {
      last = last;
      rest = e.offers.rest;
      offered = e.offers.offered;
      fits = fits;
      published_are = published_are;
      pushed = pushed;
      pushed_are = e.offers.popped_are;
      taken_begin = subst (λ (l : List Commit). Grows (app_commits_in events) l) (sym e.offers.popped_are)
          (taken_begin_of (opening_of before) before.most (machine_of before).audio now last before.popped e.offers.rest before.journal events sends full e.offers.offered e.first);
      all_taken = λ all. all_taken_of (opening_of before) before.most (machine_of before).audio now last before.popped e.offers.rest before.journal events sends full e.offers.offered e.first all ∙ sym e.offers.popped_are;
      heard = all_heard published seen pushed total before.handed app_seen e.total_is e.heard;
      last_is = number ∙ ap length (sym e.audio_made);
      carried = subst (λ (l : List Commit). AreCarried l events) (sym e.audio_made) carried;
      last_taken = λ all. last_taken all ∙ ap length (sym e.audio_made);
      audio_seen = audio_seen;
    }

-- the first of the commits popped, of a journal in the hub's view
pub first_of_view : (most n : ℕ) (events : List EventValue) (popped : List Commit) → length events ≡ n → AreFirstOf most n (app_commits_in events) popped → AreFirstOf most (length events) (app_commits_in events) popped
first_of_view most n events popped same first = subst (λ (m : ℕ). AreFirstOf most m (app_commits_in events) popped) (sym same) first

pub published_again : (c c' : ConfigValue) (at at' : ℤ) (events : List EventValue) (published : List State) → c' ≡ c → at' ≡ at → published ≡ published_of c' at' events → published ≡ published_of c at events
published_again c c' at at' events published c_is at_is are = subst (λ (x : ConfigValue × ℤ). published ≡ published_of x.0 x.1 events) (λ k. (c_is k, at_is k)) are

pub fitting_again : (gates gates' : ℕ) (events : List EventValue) → gates' ≡ gates → ∥ AreFitting gates' 0 0 events ∥₁ → ∥ AreFitting gates 0 0 events ∥₁
fitting_again gates gates' events same fitting = subst (λ (n : ℕ). ∥ AreFitting n 0 0 events ∥₁) same fitting

pub were_published_as : (published : List State) (seen seen' : List Pair) → seen' ≡ seen → WerePublished published seen' → WerePublished published seen
were_published_as published seen seen' same were = subst (WerePublished published) same were

-- all that was pushed was popped
pub offers_all : (before : HubView) (now : ℤ) (last : Pair) (pushed popped : List Commit) (events : List EventValue) (sends : List SendingValue) (full : Bool)
    → pushed ≡ popped → AreOffers before now last popped events sends full → AreOffers before now last pushed events sends full
offers_all before now last pushed popped events sends full all offers = subst (λ (l : List Commit). AreOffers before now last l events sends full) (sym all) offers

-- the same in what the hub and the pass stand for, and of what was handed out
pub ended_again : {A B : Type 0} (hub hub' : HubView) (audio audio' : AudioView) (now : ℤ) (events events' : Vec Event A) (published published' : Vec State B) (sends : List SendingValue) (full : Bool)
    → hub ≡ hub' → audio ≡ audio' → events' ≡ events → published' ≡ published
    → HasEnded hub audio now (map event_value events.items) published.items sends full → HasEnded hub' audio' now (map event_value events'.items) published'.items sends full
ended_again {A} {B} hub hub' audio audio' now events events' published published' sends full hub_is audio_is events_are published_are ended =
    subst (λ (x : HubView × AudioView × Vec Event A × Vec State B). HasEnded x.0 x.1 now (map event_value x.2.items) x.3.items sends full) (λ k. (hub_is k, audio_is k, sym events_are k, sym published_are k)) ended
