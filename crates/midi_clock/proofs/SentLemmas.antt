-- Messages that are sent one after another: their bytes, and how many of each kind there are.
use Rattle.std.proofs.Common.{◌≡◌, ℕ, suc, ◌+◌, ◌<◌, ◌≤◌, ◌^◌, Bool, cond, List, [], ◌∷◌, ◌++◌, length, take, drop, get_or, count_by, Option, Some, None, refl, ap, sym, subst, ◌∙◌, arith, append_assoc, append-nil, length-append}
use Rattle.std.proofs.Math.Seq.{split_at}
use Rattle.std.proofs.lemmas.Grind.{flat_map-append}
use Rattle.std.proofs.lemmas.List.{length-take-le, take_more}
use Rattle.std.proofs.lemmas.List.Sums.{sum_by_push}
use Rattle.std.specs.Option.{option_map}
use Rattle.lk_outside.specs.Sink.{Appends}
use Rattle.lk_outside.specs.Transfer.{AppendsPrefix}
use Rattle.link_midi.specs.Messages.{bytes_of, is_clock_message}
use Rattle.link_midi.specs.declared.message.MidiEvent.{MidiEvent}
use Rattle.link_midi.specs.declared.message.MidiMessage.{MidiMessage}
use Rattle.midi_clock.specs.Player.{AreCutAt, CountsMore}
use Rattle.midi_clock.specs.Sent.{counts_of, is_continue_message, is_start_message, is_stop_message, midi_bytes_of}
use Rattle.midi_clock.specs.declared.counts.Counts.{Counts}

-- ---- one after another

pub none_appended : (before : Option (List ℕ)) → Appends before [] before
none_appended None = refl
none_appended (Some old) = ap Some (sym (append-nil old))

two_parts : (before : Option (List ℕ)) (xs ys : List ℕ)
    → option_map (λ old. old ++ ys) (option_map (λ old. old ++ xs) before) ≡ option_map (λ old. old ++ (xs ++ ys)) before
two_parts None xs ys = refl
two_parts (Some old) xs ys = ap Some (append_assoc old xs ys)

pub appends_more : (before mid after : Option (List ℕ)) (xs ys all : List ℕ) → xs ++ ys ≡ all → Appends before xs mid → Appends mid ys after → Appends before all after
appends_more before mid after xs ys all is first second =
    second ∙ ap (option_map (λ old. old ++ ys)) first ∙ two_parts before xs ys ∙ ap (λ l. option_map (λ old. old ++ l) before) is

pub none_sent : midi_bytes_of [] ≡ []
unfolding midi_bytes_of
none_sent = refl

pub bytes-append : (xs ys : List MidiEvent) → midi_bytes_of (xs ++ ys) ≡ midi_bytes_of xs ++ midi_bytes_of ys
unfolding midi_bytes_of
bytes-append xs ys = flat_map-append (λ (event : MidiEvent). bytes_of event.message) xs ys

bytes_of_one : (event : MidiEvent) → midi_bytes_of (event ∷ []) ≡ bytes_of event.message
unfolding midi_bytes_of
bytes_of_one event = append-nil (bytes_of event.message)

pub none_counted : (counts : Counts) → CountsMore [] counts counts
none_counted counts sent is = is ∙ ap counts_of (sym (append-nil sent))

pub counts_more : (xs ys : List MidiEvent) (before mid after : Counts) → CountsMore xs before mid → CountsMore ys mid after → CountsMore (xs ++ ys) before after
counts_more xs ys before mid after first second sent is = second (sent ++ xs) (first sent is) ∙ ap counts_of (append_assoc sent xs ys)

-- ---- one message

-- how many of one kind there are, with one message more
one_more : (is_kind : MidiMessage → Bool) (event : MidiEvent) (message : MidiMessage) (sent : List MidiEvent) (n n_then : ℕ) → event.message ≡ message
    → n ≡ count_by (λ (e : MidiEvent). is_kind e.message) sent → n_then ≡ n + cond (is_kind message) 1 0
    → n_then ≡ count_by (λ (e : MidiEvent). is_kind e.message) (sent ++ event ∷ [])
one_more is_kind event message sent n n_then is counted more =
    more
    ∙ ap (λ (k : ℕ). k + cond (is_kind message) 1 0) counted
    ∙ ap (λ (m : MidiMessage). count_by (λ (e : MidiEvent). is_kind e.message) sent + cond (is_kind m) 1 0) (sym is)
    ∙ sym (sum_by_push (λ (e : MidiEvent). cond (is_kind e.message) 1 0) sent event)

same_counts : (a b : Counts) → a.clocks ≡ b.clocks → a.starts ≡ b.starts → a.continues ≡ b.continues → a.stops ≡ b.stops → a ≡ b
same_counts a b clocks starts continues stops =
    ap (λ (n : ℕ). record a { clocks = n }) clocks
    ∙ ap (λ (n : ℕ). record a { clocks = b.clocks; starts = n }) starts
    ∙ ap (λ (n : ℕ). record b { continues = n; stops = a.stops }) continues
    ∙ ap (λ (n : ℕ). record b { stops = n }) stops

pub counted : (event : MidiEvent) (message : MidiMessage) (before after : Counts) → event.message ≡ message
    → after.clocks ≡ before.clocks + cond (is_clock_message message) 1 0 → after.starts ≡ before.starts + cond (is_start_message message) 1 0
    → after.continues ≡ before.continues + cond (is_continue_message message) 1 0 → after.stops ≡ before.stops + cond (is_stop_message message) 1 0
    → CountsMore (event ∷ []) before after
counted event message before after is clocks starts continues stops sent stood = same_counts after (counts_of (sent ++ event ∷ []))
    (one_more is_clock_message event message sent before.clocks after.clocks is (ap (λ (c : Counts). c.clocks) stood) clocks)
    (one_more is_start_message event message sent before.starts after.starts is (ap (λ (c : Counts). c.starts) stood) starts)
    (one_more is_continue_message event message sent before.continues after.continues is (ap (λ (c : Counts). c.continues) stood) continues)
    (one_more is_stop_message event message sent before.stops after.stops is (ap (λ (c : Counts). c.stops) stood) stops)

-- ---- the messages of a list, up to one

pub none_sent_yet : (before : Option (List ℕ)) → Appends before (midi_bytes_of []) before
none_sent_yet before = subst (λ (l : List ℕ). Appends before l before) (sym none_sent) (none_appended before)

pub still_few : (events : List MidiEvent) (k : ℕ) (before now : Counts) → k < length events
    → ((sent : List MidiEvent) × (before ≡ counts_of sent) × (length sent + length events < 2 ^ 63)) → CountsMore (take k events) before now
    → (sent : List MidiEvent) × (now ≡ counts_of sent) × (length sent < 2 ^ 63)
still_few events k before now in_list (sent, is, few) so_far =
    (sent ++ take k events, so_far sent is, omega (arith, length-append sent (take k events), length-take-le k events (omega arith)))

module _ (events : List MidiEvent) (k : ℕ) (d : MidiEvent) (in_list : k < length events) where
  pub one_more_counted : (before now after : Counts) → CountsMore (take k events) before now → CountsMore (get_or events k d ∷ []) now after → CountsMore (take (k + 1) events) before after
  one_more_counted before now after so_far next =
      subst (λ (l : List MidiEvent). CountsMore l before after) (sym (take_more events k d in_list)) (counts_more (take k events) (get_or events k d ∷ []) before now after so_far next)

  module _ (bytes : List ℕ) (before now after : Option (List ℕ)) (spelled : bytes ≡ bytes_of (get_or events k d).message) (so_far : Appends before (midi_bytes_of (take k events)) now) where
    pub one_more_sent : Appends now bytes after → Appends before (midi_bytes_of (take (k + 1) events)) after
    one_more_sent next =
        let event : MidiEvent = get_or events k d in
        let more : midi_bytes_of (take k events) ++ bytes ≡ midi_bytes_of (take (k + 1) events) =
        ap (λ (l : List ℕ). midi_bytes_of (take k events) ++ l) (spelled ∙ sym (bytes_of_one event))
        ∙ sym (bytes-append (take k events) (event ∷ []))
        ∙ ap midi_bytes_of (sym (take_more events k d in_list)) in
        appends_more before now after (midi_bytes_of (take k events)) bytes (midi_bytes_of (take (k + 1) events)) more so_far next

    pub is_cut : AppendsPrefix now bytes after → AreCutAt events before after (take k events)
    is_cut (front, within, next) = record {
      failed = get_or events k d;
      rest = drop (suc k) events;
      split = split_at events k d in_list;
      front = front;
      within = subst (λ (l : List ℕ). front ≤ length l) spelled within;
      sent = appends_more before now after (midi_bytes_of (take k events)) (take front (bytes_of (get_or events k d).message)) _ refl so_far
          (subst (λ (l : List ℕ). Appends now (take front l) after) spelled next);
    }
