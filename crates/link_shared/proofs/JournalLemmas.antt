-- What offered events do to the journal, and what stands in it then.
use Rattle.std.proofs.Common.{◌≡◌, ℕ, ◌+◌, ◌^◌, ◌<◌, ◌≤◌, ◌⊎◌, Bool, true, false, ◌||◌, List, [], ◌∷◌, ◌++◌, length, refl, sym, ap, subst, ◌∙◌, inl, inr, append_assoc, append-nil, length-append, true≢false, arith}
use Rattle.link_node.specs.Event.{EventValue, Rx, Tick, App, Audio, End, SendingValue, Fits, app_after, audio_after}
use Rattle.link_node.specs.Machine.{Machine}
use Rattle.link_node.specs.Runs.{machine_after, sent_by, AreFitting}
use Rattle.link_node.specs.Step.{sends_of}
use Rattle.link_node.proofs.RunLemmas.{machine_after-append, sent_by-append}
use Rattle.link_shared.specs.Journal.{IsOffered, app_commits_in, last_audio_in}

-- ---- what stands in a list of events and one after it

pub app_commits_in-append : (es fs : List EventValue) → app_commits_in (es ++ fs) ≡ app_commits_in es ++ app_commits_in fs
app_commits_in-append [] fs = refl
app_commits_in-append (Rx gate from bytes now ∷ es) fs = app_commits_in-append es fs
app_commits_in-append (Tick now ∷ es) fs = app_commits_in-append es fs
app_commits_in-append (App commit now ∷ es) fs = ap (λ l. commit ∷ l) (app_commits_in-append es fs)
app_commits_in-append (Audio number commit now ∷ es) fs = app_commits_in-append es fs
app_commits_in-append (End now ∷ es) fs = app_commits_in-append es fs

pub last_audio_in-append : (held : ℕ) (es fs : List EventValue) → last_audio_in held (es ++ fs) ≡ last_audio_in (last_audio_in held es) fs
last_audio_in-append held [] fs = refl
last_audio_in-append held (e ∷ es) fs = last_audio_in-append (audio_after held e) es fs

-- an event that fits at these counts fits at another count of application commits that is small enough
pub fits_at : (gates app other audio : ℕ) (e : EventValue) → other < 2 ^ 60 → Fits gates app audio e → Fits gates other audio e
fits_at gates app other audio (Rx gate from bytes now) small fits = fits
fits_at gates app other audio (Tick now) small fits = fits
fits_at gates app other audio (App commit now) small fits = (fits.0, (fits.1.0, small))
fits_at gates app other audio (Audio number commit now) small fits = fits
fits_at gates app other audio (End now) small fits = fits

-- how many application commits were taken after these events
abbrev apps_after : ℕ → List EventValue → ℕ
apps_after app [] = app
apps_after app (e ∷ es) = apps_after (app_after app e) es

apps_are_few : (app : ℕ) (es : List EventValue) → apps_after app es ≤ app + length es
apps_are_few app [] = omega arith
apps_are_few app (Rx gate from bytes now ∷ es) = omega (arith, apps_are_few app es)
apps_are_few app (Tick now ∷ es) = omega (arith, apps_are_few app es)
apps_are_few app (App commit now ∷ es) = omega (arith, apps_are_few (app + 1) es)
apps_are_few app (Audio number commit now ∷ es) = omega (arith, apps_are_few app es)
apps_are_few app (End now ∷ es) = omega (arith, apps_are_few app es)

fitting_by : (gates app audio : ℕ) (es : List EventValue) (e : EventValue) → AreFitting gates app audio es
    → Fits gates (apps_after app es) (last_audio_in audio es) e → AreFitting gates app audio (es ++ e ∷ [])
fitting_by gates app audio [] e fitting fits = (fits, tt)
fitting_by gates app audio (d ∷ es) e fitting fits = (fitting.0, fitting_by gates (app_after app d) (audio_after audio d) es e fitting.1 fits)

-- One more event fits, at whatever count of application commits it was tried, while the list is short
pub fitting_more : (gates app audio : ℕ) (es : List EventValue) (e : EventValue) → length es < 2 ^ 60 → audio ≡ last_audio_in 0 es
    → AreFitting gates 0 0 es → Fits gates app audio e → AreFitting gates 0 0 (es ++ e ∷ [])
fitting_more gates app audio es e short last fitting fits =
    fitting_by gates 0 0 es e fitting
    (subst (λ (n : ℕ). Fits gates (apps_after 0 es) n e) last
    (fits_at gates app (apps_after 0 es) audio e (omega (arith, apps_are_few 0 es, short)) fits))

-- ---- events offered

nothing_sent : (m : Machine) → sent_by m [] ≡ []
unfolding sent_by
nothing_sent m = refl

one_sent : (m : Machine) (e : EventValue) → sent_by m (e ∷ []) ≡ sends_of m e
unfolding sent_by
one_sent m e = append-nil (sends_of m e)

pub offered_none : (opening : Machine) (most : ℕ) (journal : List EventValue) (sends : List SendingValue) → length journal ≤ most
    → IsOffered opening most [] journal journal sends sends false
offered_none opening most journal sends fits = record {
  taken = [];
  refused = [];
  split = refl;
  journal = sym (append-nil journal);
  sends = sym (ap (λ l. sends ++ l) (nothing_sent (machine_after opening journal)) ∙ append-nil sends);
  all = λ _. refl;
  no_room = λ e. absurd (true≢false (sym e));
  fits = fits;
}

pub offered_taken : (opening : Machine) (most : ℕ) (e : EventValue) (before : List EventValue) (unsent : List SendingValue) → length before < most
    → IsOffered opening most (e ∷ []) before (before ++ e ∷ []) unsent (unsent ++ sends_of (machine_after opening before) e) false
offered_taken opening most e before unsent room = record {
  taken = e ∷ [];
  refused = [];
  split = refl;
  journal = refl;
  sends = sym (ap (λ l. unsent ++ l) (one_sent (machine_after opening before) e));
  all = λ _. refl;
  no_room = λ full. absurd (true≢false (sym full));
  fits = omega (arith, length-append before (e ∷ []));
}

pub offered_refused : (opening : Machine) (most : ℕ) (e : EventValue) (journal : List EventValue) (sends : List SendingValue) → length journal ≡ most
    → IsOffered opening most (e ∷ []) journal journal sends sends true
offered_refused opening most e journal sends full = record {
  taken = [];
  refused = e ∷ [];
  split = refl;
  journal = sym (append-nil journal);
  sends = sym (ap (λ l. sends ++ l) (nothing_sent (machine_after opening journal)) ∙ append-nil sends);
  all = λ e. absurd (true≢false e);
  no_room = λ _. (full, omega arith);
  fits = omega arith;
}

-- what the machine sends for two lists
sent_both : (opening : Machine) (before : List EventValue) (unsent : List SendingValue) (es fs : List EventValue)
    → (unsent ++ sent_by (machine_after opening before) es) ++ sent_by (machine_after opening (before ++ es)) fs
    ≡ unsent ++ sent_by (machine_after opening before) (es ++ fs)
sent_both opening before unsent es fs =
    let m : Machine = machine_after opening before in
    append_assoc unsent (sent_by m es) (sent_by (machine_after opening (before ++ es)) fs)
    ∙ ap (λ (n : Machine). unsent ++ (sent_by m es ++ sent_by n fs)) (machine_after-append opening before es)
    ∙ ap (λ l. unsent ++ l) (sym (sent_by-append m es fs))

-- both lists, where all of the first was taken
both_taken : {A : Type 0} (xs ys taken refused taken' refused' : List A) → refused ≡ [] → xs ≡ taken ++ refused → ys ≡ taken' ++ refused'
    → xs ++ ys ≡ (taken ++ taken') ++ refused'
both_taken xs ys taken refused taken' refused' none first second =
    ap (λ l. l ++ ys) (first ∙ ap (λ l. taken ++ l) none ∙ append-nil taken)
    ∙ ap (λ l. taken ++ l) second ∙ sym (append_assoc taken taken' refused')

nothing_there : {A : Type 0} (xs : List A) → length xs ≤ 0 → xs ≡ []
nothing_there [] none = refl
nothing_there (x ∷ xs) none = absurd (omega arith)

no_more : {A : Type 0} (before more after : List A) (most : ℕ) → length before ≡ most → after ≡ before ++ more → length after ≤ most → more ≡ []
no_more before more after most full grows fits = nothing_there more (omega (arith, length-append before more, ap length grows))

-- Two lists of events are offered one after the other
pub offered_both : (opening : Machine) (most : ℕ) (es fs before between after : List EventValue) (unsent sent all_sent : List SendingValue) (full full' : Bool)
    → IsOffered opening most es before between unsent sent full → IsOffered opening most fs between after sent all_sent full'
    → IsOffered opening most (es ++ fs) before after unsent all_sent (full || full')
offered_both opening most es fs before between after unsent sent all_sent false full' first second = record {
  taken = first.taken ++ second.taken;
  refused = second.refused;
  split = both_taken es fs first.taken first.refused second.taken second.refused (first.all refl) first.split second.split;
  journal = second.journal ∙ ap (λ l. l ++ second.taken) first.journal ∙ append_assoc before first.taken second.taken;
  sends = second.sends ∙ ap (λ l. l ++ sent_by (machine_after opening between) second.taken) first.sends
      ∙ ap (λ l. (unsent ++ sent_by (machine_after opening before) first.taken) ++ sent_by (machine_after opening l) second.taken) first.journal
      ∙ sent_both opening before unsent first.taken second.taken;
  all = second.all;
  no_room = second.no_room;
  fits = second.fits;
}
offered_both opening most es fs before between after unsent sent all_sent true full' first second =
    let none : second.taken ≡ [] = no_more between second.taken after most (first.no_room refl).0 second.journal second.fits in record {
      taken = first.taken;
      refused = first.refused ++ fs;
      split = ap (λ l. l ++ fs) first.split ∙ append_assoc first.taken first.refused fs;
      journal = second.journal ∙ ap (λ l. between ++ l) none ∙ append-nil between ∙ first.journal;
      sends = second.sends ∙ ap (λ l. sent ++ sent_by (machine_after opening between) l) none
          ∙ ap (λ l. sent ++ l) (nothing_sent (machine_after opening between)) ∙ append-nil sent ∙ first.sends;
      all = λ e. absurd (true≢false e);
      no_room = λ _. (
        ap length (second.journal ∙ ap (λ l. between ++ l) none ∙ append-nil between) ∙ (first.no_room refl).0,
        omega (arith, length-append first.refused fs, (first.no_room refl).1),
      );
      fits = second.fits;
    }

-- ---- one event offered: it was taken, or the journal was full

pub record WasTaken (opening : Machine) (e : EventValue) (before after : List EventValue) (unsent sent : List SendingValue) (full : Bool) : Type 0 where
  pub told : full ≡ false
  pub journal : after ≡ before ++ e ∷ []
  pub sends : sent ≡ unsent ++ sends_of (machine_after opening before) e

pub record WasRefused (most : ℕ) (before after : List EventValue) (unsent sent : List SendingValue) (full : Bool) : Type 0 where
  pub told : full ≡ true
  pub journal : after ≡ before
  pub sends : sent ≡ unsent
  pub no_room : length before ≡ most

pub taken_or_refused : (opening : Machine) (most : ℕ) (e : EventValue) (before after : List EventValue) (unsent sent : List SendingValue) (full : Bool)
    → IsOffered opening most (e ∷ []) before after unsent sent full
    → WasTaken opening e before after unsent sent full ⊎ WasRefused most before after unsent sent full
taken_or_refused opening most e before after unsent sent false offered =
    let taken : offered.taken ≡ e ∷ [] = sym (offered.split ∙ ap (λ l. offered.taken ++ l) (offered.all refl) ∙ append-nil offered.taken) in
    inl (record {
      told = refl;
      journal = offered.journal ∙ ap (λ l. before ++ l) taken;
      sends = offered.sends ∙ ap (λ l. unsent ++ sent_by (machine_after opening before) l) taken ∙ ap (λ l. unsent ++ l) (one_sent (machine_after opening before) e);
    })
taken_or_refused opening most e before after unsent sent true offered =
    let room = offered.no_room refl in
    let none : offered.taken ≡ [] = nothing_there offered.taken (omega (arith, room.1, length-append offered.taken offered.refused, ap length offered.split)) in
    let same : after ≡ before = offered.journal ∙ ap (λ l. before ++ l) none ∙ append-nil before in
    inr (record {
      told = refl;
      journal = same;
      sends = offered.sends ∙ ap (λ l. unsent ++ sent_by (machine_after opening before) l) none ∙ ap (λ l. unsent ++ l) (nothing_sent (machine_after opening before)) ∙ append-nil unsent;
      no_room = sym (ap length same) ∙ room.0;
    })
