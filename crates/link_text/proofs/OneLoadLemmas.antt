-- A load has one list of events, and so one text.
use Rattle.std.proofs.Common.{◌≡◌, ◌∙◌, sym, ap, ℕ, zero, suc, pos, ◌<◌, ◌≤◌, List, length, get_or, take, refl, arith, add-one}
use Rattle.std.proofs.lemmas.List.{take_all, take_more_same}
use Rattle.std.proofs.lemmas.Option.{slice_get-get_or}
use Rattle.link_node.specs.Event.{EventValue, Tick}
use Rattle.link_text.specs.Load.{AreLoadEvents, HasOneLoadText, load_event_of, load_machine_after, load_text_of}

event_here : (seed : ℕ) (es : List EventValue) (k : ℕ) (d : EventValue) → AreLoadEvents seed es → k < length es
    → get_or es k d ≡ load_event_of seed k (load_machine_after seed (take k es)).published
event_here seed es k d in_turn less = in_turn k (get_or es k d) (slice_get-get_or es k d less)

same_front : (seed : ℕ) (es fs : List EventValue) (k : ℕ) → AreLoadEvents seed es → AreLoadEvents seed fs → k ≤ length es → k ≤ length fs
    → take k es ≡ take k fs
same_front seed es fs zero es_in_turn fs_in_turn in_es in_fs = refl
same_front seed es fs (suc k) es_in_turn fs_in_turn in_es in_fs =
    let before = same_front seed es fs k es_in_turn fs_in_turn (omega arith) (omega arith) in
    let d = Tick (pos 0) in
    let here : get_or es k d ≡ get_or fs k d =
    event_here seed es k d es_in_turn (omega arith)
    ∙ ap (λ (front : List EventValue). load_event_of seed k (load_machine_after seed front).published) before
    ∙ sym (event_here seed fs k d fs_in_turn (omega arith)) in
    rw add-one at (take_more_same es fs k d (omega arith) (omega arith) before here)

one_run : (seed : ℕ) (es fs : List EventValue) → AreLoadEvents seed es → AreLoadEvents seed fs → length es ≡ length fs → es ≡ fs
one_run seed es fs es_in_turn fs_in_turn so_many =
    sym (take_all (length es) es (omega arith))
    ∙ same_front seed es fs (length es) es_in_turn fs_in_turn (omega arith) (omega arith)
    ∙ take_all (length es) fs (omega arith)

pub one_text : HasOneLoadText
one_text seed count text other is was =
    let same = one_run seed is.events was.events is.in_turn was.in_turn (is.so_many ∙ sym was.so_many) in
    is.text_is ∙ ap (λ (es : List EventValue). load_text_of seed es) same ∙ sym was.text_is
