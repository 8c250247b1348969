-- What the parts of a turn leave of the hub.
use Rattle.std.proofs.Common.{◌≡◌, ℕ, zero, suc, ℤ, ◌+◌, ◌<◌, ◌≤◌, ◌⊎◌, Bool, true, false, ◌||◌, if◌then◌else◌, List, [], ◌∷◌, ◌++◌, length, map, take, drop, Option, Some, None, slice_get, slice_index, nat_lt, refl, sym, ap, subst, ◌∙◌, inl, inr, ⊎_elim, append_assoc, append-nil, length-append, take-append-drop, eq-or-lt_of_le, add-zero, arith}
use Rattle.std.proofs.lemmas.List.{length-map}
use Rattle.std.proofs.lemmas.Option.{none-some}
use Rattle.std.proofs.Math.Seq.{take-append_seam}
use Rattle.std.proofs.Props.{props}
use mathlib.Core.Logic.{∥∥₁_elim, ∥∥₁_map}
use Rattle.atomic_table.proofs.Lists.{at_longer, at_last}
use Rattle.audio_handoff.specs.Cell.{Pair}
use Rattle.client_state.specs.Words.{commit_of_words}
use Rattle.client_state.specs.declared.commit.Commit.{Commit}
use Rattle.arrayvec.specs.ArrayVec.{ArrayVec}
use Rattle.lk_base.specs.Ranges.{IsMoment}
use Rattle.lk_base.specs.declared.endpoint.Endpoint.{Endpoint}
use Rattle.lk_base.specs.declared.endpoint.Gate.{Gate}
use Rattle.link_node.specs.Config.{ConfigValue}
use Rattle.link_node.specs.Event.{EventValue, Rx, Tick, App, Audio, End, SendingValue, event_value, Fits, audio_after}
use Rattle.link_node.specs.Machine.{Machine}
use Rattle.link_node.specs.Opening.{opened}
use Rattle.link_node.specs.Runs.{machine_after}
use Rattle.link_node.specs.Standing.{StandsFor}
use Rattle.link_node.specs.Step.{step_of}
use Rattle.link_node.specs.declared.event.Event.{Event}
use Rattle.link_node.specs.declared.node.Node.{Node}
use Rattle.link_shared.specs.Hub.{HubView, IsOnGate, opening_of, machine_of, item_events, read_events, got_events, HasTurned}
use Rattle.link_shared.specs.Journal.{IsOffered, app_commits_in}
use Rattle.link_shared.specs.Keeper.{AreFirstOf, IsReadAs, WereRead}
use Rattle.link_shared.specs.Turning.{HasTakenItem, HasTakenAudio, HasOffered}
use Rattle.link_shared.specs.declared.got.Got.{Got}
use Rattle.link_shared.specs.declared.got.Got.TheVariants as got
use Rattle.link_shared.specs.declared.queue.Item.TheVariants as item
use Rattle.link_shared.proofs.JournalLemmas.{app_commits_in-append, offered_none, offered_both, taken_or_refused, WasTaken, WasRefused}
use Rattle.link_shared.proofs.KeeperLemmas.{after_one}

integers_equal : (a b : ℤ) → IsProp (a ≡ b)
integers_equal a b = hlevel props

-- ---- the commits taken are the first of those popped

begins : {A : Type 0} (xs ys rest : List A) → ys ≡ xs ++ rest → xs ≡ take (length xs) ys
begins xs ys rest e = sym (ap (λ l. take (length xs) l) e ∙ take-append_seam xs rest)

nothing_more : {A : Type 0} (before more after : List A) (most : ℕ) → length before ≡ most → after ≡ before ++ more → length after ≤ most → more ≡ []
nothing_more before [] after most full grows fits = refl
nothing_more before (x ∷ more) after most full grows fits = absurd (omega (arith, length-append before (x ∷ more), ap length grows))

-- whatever was offered, and whether or not it was taken
first_of_journal : (opening : Machine) (most : ℕ) (es before after : List EventValue) (unsent sent : List SendingValue) (full : Bool) (popped : List Commit)
    → IsOffered opening most es before after unsent sent full → AreFirstOf most (length before) (app_commits_in before) popped
    → AreFirstOf most (length after) (app_commits_in after) (popped ++ app_commits_in es)
first_of_journal opening most es before after unsent sent full popped offered were =
    ⊎_elim at_most below_most (eq-or-lt_of_le (omega (arith, ap length offered.journal, length-append before offered.taken, offered.fits)))
  where
    taken_commits : app_commits_in after ≡ app_commits_in before ++ app_commits_in offered.taken
    taken_commits = ap app_commits_in offered.journal ∙ app_commits_in-append before offered.taken

    all_commits : app_commits_in es ≡ app_commits_in offered.taken ++ app_commits_in offered.refused
    all_commits = ap app_commits_in offered.split ∙ app_commits_in-append offered.taken offered.refused

    at_most : length before ≡ most → AreFirstOf most (length after) (app_commits_in after) (popped ++ app_commits_in es)
    at_most at =
        let none : offered.taken ≡ [] = nothing_more before offered.taken after most at offered.journal offered.fits in
        let same : app_commits_in after ≡ app_commits_in before = taken_commits ∙ ap (λ l. app_commits_in before ++ app_commits_in l) none ∙ append-nil (app_commits_in before) in
        let old : List Commit = app_commits_in before in
        let rest : List Commit = drop (length old) popped in
        let split : popped ≡ old ++ rest = sym (take-append-drop (length old) popped) ∙ ap (λ l. l ++ rest) (sym were.first) in record {
          first = subst (λ (l : List Commit). l ≡ take (length l) (popped ++ app_commits_in es)) (sym same)
              (begins old (popped ++ app_commits_in es) (rest ++ app_commits_in es) (ap (λ l. l ++ app_commits_in es) split ∙ append_assoc old rest (app_commits_in es)));
          all = λ room. absurd (omega (arith, room, at, ap length (offered.journal ∙ ap (λ l. before ++ l) none ∙ append-nil before)));
        }

    below_most : length before < most → AreFirstOf most (length after) (app_commits_in after) (popped ++ app_commits_in es)
    below_most below =
        let grown : app_commits_in after ≡ popped ++ app_commits_in offered.taken = taken_commits ∙ ap (λ l. l ++ app_commits_in offered.taken) (were.all below) in record {
          first = subst (λ (l : List Commit). l ≡ take (length l) (popped ++ app_commits_in es)) (sym grown)
              (begins (popped ++ app_commits_in offered.taken) (popped ++ app_commits_in es) (app_commits_in offered.refused)
              (ap (λ l. popped ++ l) all_commits ∙ sym (append_assoc popped (app_commits_in offered.taken) (app_commits_in offered.refused))));
          all = λ room. grown ∙ ap (λ l. popped ++ l) (sym (all_commits ∙ ap (λ l. app_commits_in offered.taken ++ app_commits_in l) (none_refused full offered.no_room offered.all room) ∙ append-nil (app_commits_in offered.taken)));
        }
      where
        none_refused : (full : Bool) → (full ≡ true → (length after ≡ most) × (0 < length offered.refused)) → (full ≡ false → offered.refused ≡ []) → length after < most → offered.refused ≡ []
        none_refused true no_room all room = absurd (omega (arith, (no_room refl).0))
        none_refused false no_room all room = all refl

-- the same of the events as they stand in code
pub first_after : (opening : Machine) (most most' : ℕ) (es : List EventValue) (items items' : List Event) (unsent sent : List SendingValue) (full : Bool) (popped popped' : List Commit)
    → IsOffered opening most es (map event_value items) (map event_value items') unsent sent full → AreFirstOf most (length items) (app_commits_in (map event_value items)) popped
    → most' ≡ most → popped' ≡ popped ++ app_commits_in es → AreFirstOf most' (length items') (app_commits_in (map event_value items')) popped'
first_after opening most most' es items items' unsent sent full popped popped' offered were same grown =
    let now = first_of_journal opening most es (map event_value items) (map event_value items') unsent sent full popped offered
    (subst (λ (n : ℕ). AreFirstOf most n (app_commits_in (map event_value items)) popped) (sym (length-map items event_value)) were) in
    subst (λ (m : ℕ). AreFirstOf m (length items') (app_commits_in (map event_value items')) popped') (sym same)
    (subst (λ (l : List Commit). AreFirstOf most (length items') (app_commits_in (map event_value items')) l) (sym grown)
    (subst (λ (n : ℕ). AreFirstOf most n (app_commits_in (map event_value items')) (popped ++ app_commits_in es)) (length-map items' event_value) now))

-- a row that is read is no commit of an application
pub read_pops_nothing : (now : ℤ) (taken : ℕ) (pair : Pair) (popped : List Commit) → popped ≡ popped ++ app_commits_in (read_events now taken pair)
read_pops_nothing now taken pair popped = by_test (nat_lt taken pair.0)
  where
    by_test : (later : Bool) → popped ≡ popped ++ app_commits_in (if later then Audio pair.0 (commit_of_words pair.1) now ∷ [] else [])
    by_test true = sym (append-nil popped)
    by_test false = sym (append-nil popped)

-- ---- each audio commit in the journal was read

-- an audio commit was read under its number
abbrev pub IsReadEvent : List Pair → EventValue → Type 0
IsReadEvent reads (Rx gate from bytes now) = Unit {0}
IsReadEvent reads (Tick now) = Unit {0}
IsReadEvent reads (App commit now) = Unit {0}
IsReadEvent reads (Audio number commit now) = ∥ IsReadAs reads number commit ∥₁
IsReadEvent reads (End now) = Unit {0}

abbrev pub IsReadIfThere : List Pair → Option EventValue → Type 0
IsReadIfThere reads None = Unit {0}
IsReadIfThere reads (Some e) = IsReadEvent reads e

abbrev pub AreRead : List Pair → List EventValue → Type 0
AreRead reads es = (k : ℕ) → IsReadIfThere reads (slice_get es k)

none_to_read : (reads : List Pair) → AreRead reads []
none_to_read reads k = tt

pub one_read : (reads : List Pair) (e : EventValue) → IsReadEvent reads e → AreRead reads (e ∷ [])
one_read reads e read zero = read
one_read reads e read (suc k) = tt

stands_in_either : {A : Type 0} (xs ys : List A) (k : ℕ) (y : A) → slice_get (xs ++ ys) k ≡ Some y → (slice_get xs k ≡ Some y) ⊎ ((j : ℕ) × (slice_get ys j ≡ Some y))
stands_in_either [] ys k y e = inr (k, e)
stands_in_either (x ∷ xs) ys zero y e = inl e
stands_in_either (x ∷ xs) ys (suc k) y e = stands_in_either xs ys k y e

stands_longer : {A : Type 0} (xs ys : List A) (k : ℕ) (y : A) → slice_get xs k ≡ Some y → slice_get (xs ++ ys) k ≡ Some y
stands_longer [] ys k y e = absurd (none-some y e)
stands_longer (x ∷ xs) ys zero y e = e
stands_longer (x ∷ xs) ys (suc k) y e = stands_longer xs ys k y e

read_longer : (reads more : List Pair) (number : ℕ) (commit : Commit) → IsReadAs reads number commit → IsReadAs (reads ++ more) number commit
read_longer reads more number commit read = record {
  at = read.at;
  row = read.row;
  there = at_longer reads more read.at (number, read.row) read.there;
  commit_is = read.commit_is;
}

pub read_after : (opening : Machine) (most : ℕ) (es before after : List EventValue) (unsent sent : List SendingValue) (full : Bool) (reads more reads' : List Pair)
    → IsOffered opening most es before after unsent sent full → WereRead reads before → reads' ≡ reads ++ more → AreRead (reads ++ more) es → WereRead reads' after
read_after opening most es before after unsent sent full reads more reads' offered were grown new k number commit now e =
    subst (λ (l : List Pair). ∥ IsReadAs l number commit ∥₁) (sym grown)
    (⊎_elim
    (λ (old : slice_get before k ≡ Some (Audio number commit now)). ∥∥₁_map (were k number commit now old) (read_longer reads more number commit))
    (λ (t : (j : ℕ) × (slice_get offered.taken j ≡ Some (Audio number commit now))).
    subst (λ (o : Option EventValue). IsReadIfThere (reads ++ more) o)
    (ap (λ (l : List EventValue). slice_get l t.0) offered.split ∙ stands_longer offered.taken offered.refused t.0 (Audio number commit now) t.1) (new t.0))
    (stands_in_either before offered.taken k (Audio number commit now) (subst (λ (l : List EventValue). slice_get l k ≡ Some (Audio number commit now)) offered.journal e)))

-- what is offered of a row that was read, and was read
pub read_read : (now : ℤ) (taken : ℕ) (pair : Pair) (reads : List Pair) → AreRead (reads ++ pair ∷ []) (read_events now taken pair)
read_read now taken pair reads = by_test (nat_lt taken pair.0)
  where
    by_test : (later : Bool) → AreRead (reads ++ pair ∷ []) (if later then Audio pair.0 (commit_of_words pair.1) now ∷ [] else [])
    by_test true = one_read (reads ++ pair ∷ []) (Audio pair.0 (commit_of_words pair.1) now)
        ∣ record { at = length reads; row = pair.1; there = at_last reads pair (length reads) refl; commit_is = refl } ∣₁
    by_test false = none_to_read (reads ++ pair ∷ [])

-- ---- a part of a turn, from the fields of the hub before (which stand for the view) and after it

-- the event offered leaves the number of the last audio commit
audio_left : (opening : Machine) (most : ℕ) (e : EventValue) (before after : List EventValue) (unsent sent : List SendingValue) (full : Bool)
    → ((m : Machine) (e : EventValue) → (step_of m e).audio ≡ audio_after m.audio e) → ((n : ℕ) → audio_after n e ≡ n)
    → IsOffered opening most (e ∷ []) before after unsent sent full → (machine_after opening after).audio ≡ (machine_after opening before).audio
audio_left opening most e before after unsent sent full law leaves offered =
    ⊎_elim
    (λ (t : WasTaken opening e before after unsent sent full).
    ap (λ (l : List EventValue). (machine_after opening l).audio) t.journal ∙ ap (λ (m : Machine). m.audio) (after_one opening before e)
    ∙ law (machine_after opening before) e ∙ leaves (machine_after opening before).audio)
    (λ (r : WasRefused most before after unsent sent full). ap (λ (l : List EventValue). (machine_after opening l).audio) r.journal)
    (taken_or_refused opening most e before after unsent sent full offered)

-- the same config and opening moment, so the same opening
same_opening : (v w : HubView) → w.config ≡ v.config → w.opened_at ≡ v.opened_at → opening_of w ≡ opening_of v
same_opening v w config opened_at = ap (λ (c : ConfigValue). opened c w.opened_at) config ∙ ap (λ (n : ℤ). opened v.config n) opened_at

pub took_commit : (v before after : HubView) (commit : Commit) (now' now : ℤ) (unsent sent : List SendingValue) (full : Bool)
    → v ≡ before → now' ≡ now → ((m : Machine) (e : EventValue) → (step_of m e).audio ≡ audio_after m.audio e)
    → after.config ≡ v.config → after.opened_at ≡ v.opened_at → after.most ≡ v.most → after.reads ≡ v.reads → after.handed ≡ v.handed
    → after.popped ≡ v.popped ++ commit ∷ [] → after.quits ≡ v.quits
    → IsOffered (opening_of v) v.most (App commit now' ∷ []) v.journal after.journal unsent sent full → sent ≡ unsent
    → HasTakenItem before after now unsent sent false full
took_commit v before after commit now' now unsent sent full is same law config opened_at most reads handed popped quits offered sends =
    subst (λ (b : HubView). HasTakenItem b after now unsent sent false full) is
    (record {
      popped_item = Some (item.Commit commit);
      popped = popped;
      quits = quits ∙ sym (add-zero v.quits);
      quit_is = refl;
      offered = subst (λ (n : ℤ). IsOffered (opening_of v) v.most (App commit n ∷ []) v.journal after.journal unsent sent full) same offered;
      sends_stay = sends;
      audio_stays = ap (λ (o : Machine). (machine_after o after.journal).audio) (same_opening v after config opened_at)
          ∙ audio_left (opening_of v) v.most (App commit now') v.journal after.journal unsent sent full law (λ n. refl) offered;
      others_stay = λ i. record { config = config i; opened_at = opened_at i; most = most i; journal = after.journal; reads = reads i; popped = after.popped; quits = after.quits; handed = handed i };
    })

pub took_quit : (v before after : HubView) (now : ℤ) (sends : List SendingValue) → v ≡ before → length v.journal ≤ v.most
    → after ≡ record v { popped = after.popped; quits = after.quits } → after.popped ≡ v.popped → after.quits ≡ v.quits + 1
    → HasTakenItem before after now sends sends true false
took_quit v before after now sends is fits others popped quits =
    subst (λ (b : HubView). HasTakenItem b after now sends sends true false) is
    (subst (λ (w : HubView). HasTakenItem v w now sends sends true false) (sym others)
    (record {
      popped_item = Some item.Quit;
      popped = popped ∙ sym (append-nil v.popped);
      quits = quits;
      quit_is = refl;
      offered = offered_none (opening_of v) v.most v.journal sends fits;
      sends_stay = refl;
      audio_stays = refl;
      others_stay = refl;
    }))

pub took_nothing : (v before after : HubView) (now : ℤ) (sends : List SendingValue) → v ≡ before → length v.journal ≤ v.most
    → after ≡ record v { popped = after.popped; quits = after.quits } → after.popped ≡ v.popped → after.quits ≡ v.quits
    → HasTakenItem before after now sends sends false false
took_nothing v before after now sends is fits others popped quits =
    subst (λ (b : HubView). HasTakenItem b after now sends sends false false) is
    (subst (λ (w : HubView). HasTakenItem v w now sends sends false false) (sym others)
    (record {
      popped_item = None;
      popped = popped ∙ sym (append-nil v.popped);
      quits = quits ∙ sym (add-zero v.quits);
      quit_is = refl;
      offered = offered_none (opening_of v) v.most v.journal sends fits;
      sends_stay = refl;
      audio_stays = refl;
      others_stay = refl;
    }))

pub took_audio : (v before after : HubView) (pair : Pair) (now' now : ℤ) (unsent sent : List SendingValue) (full : Bool)
    → v ≡ before → now' ≡ now
    → after.config ≡ v.config → after.opened_at ≡ v.opened_at → after.most ≡ v.most → after.popped ≡ v.popped → after.quits ≡ v.quits → after.handed ≡ v.handed
    → after.reads ≡ v.reads ++ pair ∷ []
    → IsOffered (opening_of v) v.most (read_events now' (machine_of v).audio pair) v.journal after.journal unsent sent full → sent ≡ unsent
    → HasTakenAudio before after now unsent sent full
took_audio v before after pair now' now unsent sent full is same config opened_at most popped quits handed reads offered sends =
    subst (λ (b : HubView). HasTakenAudio b after now unsent sent full) is
    (record {
      pair = pair;
      reads = reads;
      offered = subst (λ (n : ℤ). IsOffered (opening_of v) v.most (read_events n (machine_of v).audio pair) v.journal after.journal unsent sent full) same offered;
      sends_stay = sends;
      others_stay = λ i. record { config = config i; opened_at = opened_at i; most = most i; journal = after.journal; reads = after.reads; popped = popped i; quits = quits i; handed = handed i };
    })

pub took_events : (v before after : HubView) (es es' : List EventValue) (unsent sent : List SendingValue) (full : Bool)
    → v ≡ before → es' ≡ es
    → after.config ≡ v.config → after.opened_at ≡ v.opened_at → after.most ≡ v.most → after.reads ≡ v.reads → after.popped ≡ v.popped → after.quits ≡ v.quits
    → after.handed ≡ v.handed
    → IsOffered (opening_of v) v.most es' v.journal after.journal unsent sent full → HasOffered before after es unsent sent full
took_events v before after es es' unsent sent full is same config opened_at most reads popped quits handed offered =
    subst (λ (b : HubView). HasOffered b after es unsent sent full) is
    (record {
      offered = subst (λ (l : List EventValue). IsOffered (opening_of v) v.most l v.journal after.journal unsent sent full) same offered;
      others_stay = λ i. record { config = config i; opened_at = opened_at i; most = most i; journal = after.journal; reads = reads i; popped = popped i; quits = quits i; handed = handed i };
    })

pub offered_nothing : (v before : HubView) (es : List EventValue) (sends : List SendingValue) → v ≡ before → [] ≡ es → length v.journal ≤ v.most
    → HasOffered before before es sends sends false
offered_nothing v before es sends is none fits =
    subst (λ (b : HubView). HasOffered b b es sends sends false) is
    (record {
      offered = subst (λ (l : List EventValue). IsOffered (opening_of v) v.most l v.journal v.journal sends sends false) none (offered_none (opening_of v) v.most v.journal sends fits);
      others_stay = refl;
    })

pub on_gate : (v before : HubView) (given : Got) (gate : Gate) (from : Endpoint) (bytes : ArrayVec ℕ) → v ≡ before → given ≡ got.Datagram gate from bytes
    → IsOnGate (length before.config.gates) given → gate.0 < length v.config.gates
on_gate v before given gate from bytes is datagram on =
    subst (λ (h : HubView). gate.0 < length h.config.gates) (sym is) (subst (λ (g : Got). IsOnGate (length before.config.gates) g) datagram on)

-- the same of the datagram's event, its gate counted in code
pub fits_datagram : (gates app audio : ℕ) (gate : Gate) (from : Endpoint) (bytes lent : List ℕ) (now' now : ℤ) → now' ≡ now → IsMoment now → gate.0 < gates
    → lent ≡ bytes → ((i : ℕ) → slice_index lent i < 256) → length lent ≤ 513 → Fits gates app audio (Rx gate from bytes now')
fits_datagram gates app audio gate from bytes lent now' now same moment on is are short = (
  subst IsMoment (sym same) moment,
  (on, subst (λ (l : List ℕ). (i : ℕ) → slice_index l i < 256) is are, subst (λ (l : List ℕ). length l ≤ 513) is short),
)

-- ---- what code asks of the node is the machine's

pub machine_tells : (node : Node) (v now : HubView) (value : ℤ) (told : Machine → ℤ) → v ≡ now → ∥ StandsFor node (machine_of v) ∥₁
    → ((m : Machine) → StandsFor node m → value ≡ told m) → value ≡ told (machine_of now)
machine_tells node v now value told is stands known =
    ∥∥₁_elim stands (integers_equal value (told (machine_of now))) (λ s. known (machine_of v) s ∙ ap (λ (h : HubView). told (machine_of h)) is)

-- ---- the whole turn

pub turned : (before one two after : HubView) (now : ℤ) (brought : Got) (unsent first second sent : List SendingValue) (quit full full' full'' : Bool)
    → unsent ≡ [] → HasTakenItem before one now unsent first quit full → HasTakenAudio one two now first second full' → HasOffered two after (got_events now brought) second sent full''
    → HasTurned before after now brought sent quit ((full || full') || full'')
turned before one two after now brought unsent first second sent quit full full' full'' none item audio given = record {
  popped_item = item.popped_item;
  popped = ap (λ (h : HubView). h.popped) given.others_stay ∙ ap (λ (h : HubView). h.popped) audio.others_stay ∙ item.popped;
  quits = ap (λ (h : HubView). h.quits) given.others_stay ∙ ap (λ (h : HubView). h.quits) audio.others_stay ∙ item.quits;
  quit_is = item.quit_is;
  pair = audio.pair;
  reads = ap (λ (h : HubView). h.reads) given.others_stay ∙ audio.reads ∙ ap (λ (h : HubView). h.reads ++ audio.pair ∷ []) item.others_stay;
  offered = subst (λ (l : List SendingValue). IsOffered (opening_of before) before.most ((item_events now item.popped_item ++ read_events now (machine_of before).audio audio.pair) ++ got_events now brought)
      before.journal after.journal l sent ((full || full') || full'')) none
      (offered_both (opening_of before) before.most (item_events now item.popped_item ++ read_events now (machine_of before).audio audio.pair) (got_events now brought)
      before.journal two.journal after.journal unsent second sent (full || full') full''
      (offered_both (opening_of before) before.most (item_events now item.popped_item) (read_events now (machine_of before).audio audio.pair)
      before.journal one.journal two.journal unsent first second full full' item.offered second_offered)
      third_offered);
  others_stay = λ i. record {
    config = (config_two ∙ config_one) i;
    opened_at = (opened_two ∙ opened_one) i;
    most = (most_two ∙ most_one) i;
    journal = after.journal;
    reads = after.reads;
    popped = after.popped;
    quits = after.quits;
    handed = (ap (λ (h : HubView). h.handed) given.others_stay ∙ ap (λ (h : HubView). h.handed) audio.others_stay ∙ ap (λ (h : HubView). h.handed) item.others_stay) i;
  };
}
  where
    config_one : two.config ≡ before.config
    config_one = ap (λ (h : HubView). h.config) audio.others_stay ∙ ap (λ (h : HubView). h.config) item.others_stay

    config_two : after.config ≡ two.config
    config_two = ap (λ (h : HubView). h.config) given.others_stay

    opened_one : two.opened_at ≡ before.opened_at
    opened_one = ap (λ (h : HubView). h.opened_at) audio.others_stay ∙ ap (λ (h : HubView). h.opened_at) item.others_stay

    opened_two : after.opened_at ≡ two.opened_at
    opened_two = ap (λ (h : HubView). h.opened_at) given.others_stay

    most_one : two.most ≡ before.most
    most_one = ap (λ (h : HubView). h.most) audio.others_stay ∙ ap (λ (h : HubView). h.most) item.others_stay

    most_two : after.most ≡ two.most
    most_two = ap (λ (h : HubView). h.most) given.others_stay

    opening_one : opening_of one ≡ opening_of before
    opening_one = same_opening before one (ap (λ (h : HubView). h.config) item.others_stay) (ap (λ (h : HubView). h.opened_at) item.others_stay)

    second_offered : IsOffered (opening_of before) before.most (read_events now (machine_of before).audio audio.pair) one.journal two.journal first second full'
    second_offered =
        subst (λ (o : Machine). IsOffered o before.most (read_events now (machine_of before).audio audio.pair) one.journal two.journal first second full') opening_one
        (subst (λ (n : ℕ). IsOffered (opening_of one) n (read_events now (machine_of before).audio audio.pair) one.journal two.journal first second full') (ap (λ (h : HubView). h.most) item.others_stay)
        (subst (λ (n : ℕ). IsOffered (opening_of one) one.most (read_events now n audio.pair) one.journal two.journal first second full') item.audio_stays audio.offered))

    third_offered : IsOffered (opening_of before) before.most (got_events now brought) two.journal after.journal second sent full''
    third_offered =
        subst (λ (o : Machine). IsOffered o before.most (got_events now brought) two.journal after.journal second sent full'') (same_opening before two config_one opened_one)
        (subst (λ (n : ℕ). IsOffered (opening_of two) n (got_events now brought) two.journal after.journal second sent full'') most_one given.offered)

pub turned_as : (before after : HubView) (now' now : ℤ) (brought : Got) (sent : List SendingValue) (quit full : Bool) → now' ≡ now
    → HasTurned before after now' brought sent quit full → HasTurned before after now brought sent quit full
turned_as before after now' now brought sent quit full same turn = subst (λ (n : ℤ). HasTurned before after n brought sent quit full) same turn
