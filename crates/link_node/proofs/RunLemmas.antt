-- Runs of two lists of events.
use Rattle.std.proofs.Common.{◌≡◌, List, [], ◌∷◌, ◌++◌, refl, sym, ap, ◌∙◌, append_assoc}
use Rattle.link_node.specs.Event.{EventValue}
use Rattle.link_node.specs.Machine.{Machine}
use Rattle.link_node.specs.Runs.{machine_after, sent_by, published_by, shown_by}
use Rattle.link_node.specs.Step.{step_of, sends_of, change_of}

pub machine_after-append : (m : Machine) (es fs : List EventValue) → machine_after m (es ++ fs) ≡ machine_after (machine_after m es) fs
unfolding machine_after
machine_after-append m [] fs = refl
machine_after-append m (e ∷ es) fs = machine_after-append (step_of m e) es fs

pub sent_by-append : (m : Machine) (es fs : List EventValue) → sent_by m (es ++ fs) ≡ sent_by m es ++ sent_by (machine_after m es) fs
unfolding machine_after sent_by
sent_by-append m [] fs = refl
sent_by-append m (e ∷ es) fs =
    ap (λ l. sends_of m e ++ l) (sent_by-append (step_of m e) es fs)
    ∙ sym (append_assoc (sends_of m e) (sent_by (step_of m e) es) (sent_by (machine_after (step_of m e) es) fs))

pub published_by-append : (m : Machine) (es fs : List EventValue) → published_by m (es ++ fs) ≡ published_by m es ++ published_by (machine_after m es) fs
unfolding machine_after published_by
published_by-append m [] fs = refl
published_by-append m (e ∷ es) fs =
    ap (λ l. shown_by (change_of m e) (step_of m e).published ++ l) (published_by-append (step_of m e) es fs)
    ∙ sym (append_assoc (shown_by (change_of m e) (step_of m e).published) (published_by (step_of m e) es) (published_by (machine_after (step_of m e) es) fs))
