-- What is read of a client, piece by piece, to the end.
use Rattle.std.proofs.Common.{◌≡◌, refl, sym, ◌∙◌, ap, subst, inl, inr, arith, ℕ, ℤ, pos, ◌+◌, ◌<◌, ◌≤◌, List, [], ◌∷◌, ◌++◌, length, get_or, take, drop, Option, Some, None, append_assoc, append-nil}
use Rattle.std.specs.Option.{option_map}
use Rattle.std.proofs.lemmas.List.{take_all, take_more, take-append-drop}
use Rattle.std.proofs.lemmas.List.Elements.{All-nil}
use Rattle.link_shared.specs.Passes.{AppView}
use Rattle.lk_outside.specs.Faults.{Rose}
use Rattle.lk_outside.specs.Sink.{Appends}
use Rattle.lk_outside.specs.Source.{IsAtEnd, Takes}
use Rattle.lk_outside.specs.Talk.{TalkSeen}
use Rattle.link_text.specs.ControlLine.{IsAsked}
use Rattle.link_control.specs.Lines.{whole_lines_of}
use Rattle.link_control.specs.Log.{Answered, Numbered, commits_in, own_behind}
use Rattle.link_control.specs.Serving.{AreLate, EndsServing, HasServed, HasUsed, lines_in}
use Rattle.link_control.specs.ServingNow.{GoesOn, HasStopped, IsHeard, IsServing, StopsServing}
use Rattle.link_control.specs.declared.log.LineLog.{LineLog}
use Rattle.link_control.specs.declared.server.Served.{Served}
use Rattle.link_control.specs.declared.server.Served.TheVariants as served
use Rattle.link_control.proofs.CutLemmas.{lines_cut, nothing_cut}
use Rattle.link_control.proofs.EntryLemmas.{entries_none, none_answered}
use Rattle.link_control.proofs.PaceLemmas.{are_late}
use Rattle.link_control.proofs.ServingLemmas.{stopped_longer}
use Rattle.link_control.proofs.UsedLemmas.{nothing_used}

-- ---- nothing yet

takes_none : (left : Option (List ℕ)) → Takes left [] left
takes_none None = refl
takes_none (Some rest) = refl

appends_none : (written : Option (List ℕ)) → Appends written [] written
appends_none None = refl
appends_none (Some old) = ap Some (sym (append-nil old))

pub nothing_heard : (late : Option ℤ) (start : TalkSeen) (pass : AppView) (log : List LineLog) (last : ℤ) (kept : List ℕ)
    → log ≡ [] → last ≡ pos 0 → kept ≡ [] → IsHeard late start start pass pass log last kept
nothing_heard late start pass log last kept log_is last_is kept_is = record {
  bytes = [];
  taken = takes_none start.left;
  serving = record {
    answered = [];
    logged = record {
      rest = [];
      cut = nothing_cut;
      kept_is = kept_is;
      asked = All-nil (λ (x : Answered). IsAsked x.line x.asked);
      few = omega arith;
      paced = tt;
      last_is = last_is;
      log_is = log_is ∙ sym (entries_none pass.own);
      used = subst (λ (l : List Numbered). HasUsed pass pass [] l) (sym (ap commits_in log_is)) (nothing_used pass);
      own = sym (ap (own_behind pass.own) log_is);
    };
    opened = refl;
    written = record {
      written = subst (λ (l : List ℕ). Appends start.written l start.written) (sym (none_answered log)) (appends_none start.written);
      quiet = refl;
    };
  };
}

-- ---- a piece

-- a byte that is a line feed
pub feed_taken : (late : Option ℤ) (start now : TalkSeen) (before pass : AppView) (log : List LineLog) (last : ℤ) (earlier kept : List ℕ) (byte : ℕ) (end : Option Served)
    → byte ≡ 10 → GoesOn late start now before pass log last (earlier ++ 10 ∷ []) kept end → GoesOn late start now before pass log last (earlier ++ byte ∷ []) kept end
feed_taken late start now before pass log last earlier kept byte end is goes =
    subst (λ (b : ℕ). GoesOn late start now before pass log last (earlier ++ b ∷ []) kept end) (sym is) goes

-- before the first byte of a piece
pub piece_begun : (late : Option ℤ) (start now : TalkSeen) (before pass : AppView) (log : List LineLog) (last : ℤ) (earlier kept : List ℕ)
    → IsServing late start now before pass log last earlier kept → IsServing late start now before pass log last (earlier ++ []) kept
piece_begun late start now before pass log last earlier kept run =
    subst (λ (l : List ℕ). IsServing late start now before pass log last l kept) (sym (append-nil earlier)) run

byte_taken : (late late_then : Option ℤ) (start now after : TalkSeen) (before pass pass_then : AppView) (log log_then : List LineLog) (last last_then : ℤ) (earlier bytes kept kept_then : List ℕ) (k fallback : ℕ) (end : Option Served)
    → late_then ≡ late → k < length bytes
    → ((first : TalkSeen) (own : AppView) (taken : List ℕ) → IsServing late_then first now own pass log last taken kept
    → GoesOn late_then first after own pass_then log_then last_then (taken ++ get_or bytes k fallback ∷ []) kept_then end)
    → IsServing late start now before pass log last (earlier ++ take k bytes) kept
    → GoesOn late start after before pass_then log_then last_then (earlier ++ take (k + 1) bytes) kept_then end
byte_taken late late_then start now after before pass pass_then log log_then last last_then earlier bytes kept kept_then k fallback end late_is within takes run =
    subst (λ (l : List ℕ). GoesOn late start after before pass_then log_then last_then l kept_then end)
    (append_assoc earlier (take k bytes) (get_or bytes k fallback ∷ []) ∙ ap (λ (l : List ℕ). earlier ++ l) (sym (take_more bytes k fallback within)))
    (subst (λ (z : Option ℤ). GoesOn z start after before pass_then log_then last_then ((earlier ++ take k bytes) ++ get_or bytes k fallback ∷ []) kept_then end) late_is
    (takes start before (earlier ++ take k bytes)
    (subst (λ (z : Option ℤ). IsServing z start now before pass log last (earlier ++ take k bytes) kept) (sym late_is) run)))

-- serving goes on behind a byte of a piece
pub piece_on : (late late_then : Option ℤ) (start now after : TalkSeen) (before pass pass_then : AppView) (log log_then : List LineLog) (last last_then : ℤ) (earlier bytes kept kept_then : List ℕ) (k fallback : ℕ)
    → late_then ≡ late → k < length bytes
    → ((first : TalkSeen) (own : AppView) (taken : List ℕ) → IsServing late_then first now own pass log last taken kept
    → GoesOn late_then first after own pass_then log_then last_then (taken ++ get_or bytes k fallback ∷ []) kept_then None)
    → IsServing late start now before pass log last (earlier ++ take k bytes) kept
    → IsServing late start after before pass_then log_then last_then (earlier ++ take (k + 1) bytes) kept_then
piece_on late late_then start now after before pass pass_then log log_then last last_then earlier bytes kept kept_then k fallback late_is within takes run =
    byte_taken late late_then start now after before pass pass_then log log_then last last_then earlier bytes kept kept_then k fallback None late_is within takes run

-- serving ended at a byte of a piece, and so it ended where the whole piece was taken
pub piece_stopped : (late late_then : Option ℤ) (start now after : TalkSeen) (before pass pass_then : AppView) (log log_then : List LineLog) (last last_then : ℤ) (earlier bytes kept kept_then : List ℕ) (k fallback : ℕ) (end : Served)
    → late_then ≡ late → k < length bytes
    → ((first : TalkSeen) (own : AppView) (taken : List ℕ) → IsServing late_then first now own pass log last taken kept
    → GoesOn late_then first after own pass_then log_then last_then (taken ++ get_or bytes k fallback ∷ []) kept_then (Some end))
    → IsServing late start now before pass log last (earlier ++ take k bytes) kept
    → HasStopped late start after before pass_then log_then (earlier ++ bytes) end
piece_stopped late late_then start now after before pass pass_then log log_then last last_then earlier bytes kept kept_then k fallback end late_is within takes run =
    subst (λ (l : List ℕ). HasStopped late start after before pass_then log_then l end)
    (append_assoc earlier (take (k + 1) bytes) (drop (k + 1) bytes) ∙ ap (λ (l : List ℕ). earlier ++ l) (take-append-drop (k + 1) bytes))
    (stopped_longer late start after before pass_then log_then (earlier ++ take (k + 1) bytes) (drop (k + 1) bytes) end
    (byte_taken late late_then start now after before pass pass_then log log_then last last_then earlier bytes kept kept_then k fallback (Some end) late_is within takes run))

-- the whole piece was taken
pub piece_done : (late : Option ℤ) (start now : TalkSeen) (before pass : AppView) (log : List LineLog) (last : ℤ) (earlier bytes kept : List ℕ) (k : ℕ)
    → length bytes ≤ k → IsServing late start now before pass log last (earlier ++ take k bytes) kept → IsServing late start now before pass log last (earlier ++ bytes) kept
piece_done late start now before pass log last earlier bytes kept k all run =
    subst (λ (l : List ℕ). IsServing late start now before pass log last l kept) (ap (λ (l : List ℕ). earlier ++ l) (take_all k bytes all)) run

-- ---- a read

two_parts : (after : Option (List ℕ)) (xs ys : List ℕ)
    → option_map (λ rest. xs ++ rest) (option_map (λ rest. ys ++ rest) after) ≡ option_map (λ rest. (xs ++ ys) ++ rest) after
two_parts None xs ys = refl
two_parts (Some rest) xs ys = ap Some (sym (append_assoc xs ys rest))

takes_more : (before now after : Option (List ℕ)) (bytes more : List ℕ) → Takes before bytes now → Takes now more after → Takes before (bytes ++ more) after
takes_more before now after bytes more first second = first ∙ (ap (option_map (λ rest. bytes ++ rest)) second ∙ two_parts after bytes more)

-- a read changes nothing but what is left
read_on : (late : Option ℤ) (start now then_now : TalkSeen) (before pass : AppView) (log : List LineLog) (last : ℤ) (bytes kept : List ℕ)
    → then_now.written ≡ now.written → then_now.opened ≡ now.opened → then_now.faults ≡ now.faults
    → IsServing late start now before pass log last bytes kept → IsServing late start then_now before pass log last bytes kept
read_on late start now then_now before pass log last bytes kept written opened quiet run = record {
  answered = run.answered;
  logged = run.logged;
  opened = opened ∙ run.opened;
  written = record { written = written ∙ run.written.written; quiet = quiet ∙ run.written.quiet };
}

-- what is taken of a piece goes on from what was heard
pub heard_then : (late late_then : Option ℤ) (start now read after : TalkSeen) (before pass pass_then : AppView) (log log_then : List LineLog) (last last_then : ℤ) (kept kept_then piece : List ℕ) (end : Option Served)
    → late_then ≡ late → Takes now.left piece read.left → read.written ≡ now.written → read.opened ≡ now.opened → read.faults ≡ now.faults
    → ((first : TalkSeen) (own : AppView) (earlier : List ℕ) → IsServing late_then first read own pass log last earlier kept
    → GoesOn late_then first after own pass_then log_then last_then (earlier ++ piece) kept_then end)
    → (run : IsHeard late start now before pass log last kept) → GoesOn late start after before pass_then log_then last_then (run.bytes ++ piece) kept_then end
heard_then late late_then start now read after before pass pass_then log log_then last last_then kept kept_then piece end late_is taken written opened quiet goes run =
    subst (λ (z : Option ℤ). GoesOn z start after before pass_then log_then last_then (run.bytes ++ piece) kept_then end) late_is
    (goes start before run.bytes
    (subst (λ (z : Option ℤ). IsServing z start read before pass log last run.bytes kept) (sym late_is)
    (read_on late start now read before pass log last run.bytes kept written opened quiet run.serving)))

pub heard_more : (late late_then : Option ℤ) (start now read after : TalkSeen) (before pass pass_then : AppView) (log log_then : List LineLog) (last last_then : ℤ) (kept kept_then piece : List ℕ)
    → late_then ≡ late → Takes now.left piece read.left → read.written ≡ now.written → read.opened ≡ now.opened → read.faults ≡ now.faults → after.left ≡ read.left
    → ((first : TalkSeen) (own : AppView) (earlier : List ℕ) → IsServing late_then first read own pass log last earlier kept
    → GoesOn late_then first after own pass_then log_then last_then (earlier ++ piece) kept_then None)
    → IsHeard late start now before pass log last kept → IsHeard late start after before pass_then log_then last_then kept_then
heard_more late late_then start now read after before pass pass_then log log_then last last_then kept kept_then piece late_is taken written opened quiet left goes run = record {
  bytes = run.bytes ++ piece;
  taken = subst (λ (o : Option (List ℕ)). Takes start.left (run.bytes ++ piece) o) (sym left)
      (takes_more start.left now.left read.left run.bytes piece run.taken taken);
  serving = heard_then late late_then start now read after before pass pass_then log log_then last last_then kept kept_then piece None late_is taken written opened quiet goes run;
}

-- ---- the end

stop_ends : (end : Served) (lines : List (List ℕ)) (start now : TalkSeen) (answered : List Answered) (log : List LineLog)
    → StopsServing end lines start now answered log → EndsServing end lines start now answered log
stop_ends served.Ended lines start now answered log stops = absurd stops
stop_ends served.Failed lines start now answered log stops = (stops.0, inr stops.1)
stop_ends served.Lines lines start now answered log stops = stops
stop_ends (served.Memory error) lines start now answered log stops = stops

-- serving ended at a line
pub has_stopped : (late late_then : Option ℤ) (start now read after : TalkSeen) (before pass pass_then : AppView) (log log_then : List LineLog) (last last_then : ℤ) (kept kept_then piece : List ℕ) (end : Served)
    → late_then ≡ late → Takes now.left piece read.left → read.written ≡ now.written → read.opened ≡ now.opened → read.faults ≡ now.faults → after.left ≡ read.left
    → ((first : TalkSeen) (own : AppView) (earlier : List ℕ) → IsServing late_then first read own pass log last earlier kept
    → GoesOn late_then first after own pass_then log_then last_then (earlier ++ piece) kept_then (Some end))
    → IsHeard late start now before pass log last kept → HasServed late start after before pass_then log_then end
has_stopped late late_then start now read after before pass pass_then log log_then last last_then kept kept_then piece end late_is taken written opened quiet left goes run =
    let stop : HasStopped late start after before pass_then log_then (run.bytes ++ piece) end
    = heard_then late late_then start now read after before pass pass_then log log_then last last_then kept kept_then piece (Some end) late_is taken written opened quiet goes run in
    record {
      bytes = run.bytes ++ piece;
      taken = subst (λ (o : Option (List ℕ)). Takes start.left (run.bytes ++ piece) o) (sym left)
          (takes_more start.left now.left read.left run.bytes piece run.taken taken);
      opened = stop.opened;
      answered = stop.answered;
      lines = stop.lines;
      asked = stop.asked;
      few = stop.few;
      paced = stop.paced;
      moments = subst (λ (l : List LineLog). AreLate late l) (sym stop.log_is) (are_late late before.own stop.answered stop.paced);
      log_is = stop.log_is;
      ends = stop_ends end (whole_lines_of (run.bytes ++ piece)) start after stop.answered log_then stop.ends;
      used = stop.used;
      own = stop.own;
    }

-- all lines were answered, and the client ended or a read failed
module _ (late : Option ℤ) (start now after : TalkSeen) (before pass : AppView) (log : List LineLog) (last : ℤ) (kept : List ℕ) (left : after.left ≡ now.left) (written : after.written ≡ now.written) (opened : after.opened ≡ now.opened) (run : IsHeard late start now before pass log last kept) where
  all_answered : whole_lines_of run.bytes ≡ lines_in run.serving.answered
  all_answered = lines_cut run.bytes run.serving.logged.rest (lines_in run.serving.answered) run.serving.logged.cut

  served_as : (end : Served) → EndsServing end (whole_lines_of run.bytes) start after run.serving.answered log → HasServed late start after before pass log end
  served_as end ends = record {
    bytes = run.bytes;
    taken = subst (λ (o : Option (List ℕ)). Takes start.left run.bytes o) (sym left) run.taken;
    opened = opened ∙ run.serving.opened;
    answered = run.serving.answered;
    lines = ([], all_answered ∙ sym (append-nil (lines_in run.serving.answered)));
    asked = run.serving.logged.asked;
    few = run.serving.logged.few;
    paced = run.serving.logged.paced;
    moments = subst (λ (l : List LineLog). AreLate late l) (sym run.serving.logged.log_is) (are_late late before.own run.serving.answered run.serving.logged.paced);
    log_is = run.serving.logged.log_is;
    ends = ends;
    used = run.serving.logged.used;
    own = run.serving.logged.own;
  }

  pub has_ended : IsAtEnd now.left → after.faults ≡ now.faults → HasServed late start after before pass log served.Ended
  has_ended at_end quiet =
      served_as served.Ended (
        sym all_answered,
        subst IsAtEnd (sym left) at_end,
        record { written = written ∙ run.serving.written.written; quiet = quiet ∙ run.serving.written.quiet },
      )

  pub has_failed : Rose now.faults after.faults → HasServed late start after before pass log served.Failed
  has_failed rose =
      served_as served.Failed (
        subst (λ (n : ℕ). Rose n after.faults) run.serving.written.quiet rose,
        inl (sym all_answered, written ∙ run.serving.written.written),
      )
