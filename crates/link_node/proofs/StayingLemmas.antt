-- What the end of an event keeps, whether or not a session is founded.
use Rattle.std.proofs.Common.{◌≡◌, ◌<◌, ◌+◌, ℕ, Bool, true, false, Some, List, [], ◌∷◌, ◌++◌, refl, sym, ap, ◌∙◌, subst, arith}
use Rattle.std.specs.Prelude.{◌==◌, ◌&&◌, nat_lt, neg_ℤ, if◌then◌else◌}
use Rattle.std.proofs.lemmas.Bool.Decides.{nat_tests}
use Rattle.peer_gateway.specs.Answers.{peers_in}
use Rattle.client_state.specs.declared.state.State.{State}
use Rattle.link_node.specs.Broadcast.{broadcast_after, is_broadcast}
use Rattle.link_node.specs.Client.{renewed}
use Rattle.link_node.specs.Event.{EventValue, Rx, Tick, App, Audio, End, moment_of}
use Rattle.link_node.specs.Machine.{Machine, session_in}
use Rattle.link_node.specs.Publishing.{shown, alike, state_in, change_in}
use Rattle.link_node.specs.Runs.{machine_after, published_by, shown_by}
use Rattle.link_node.specs.Settling.{id_drawn, settled, founded, counted, is_left, noted}
use Rattle.link_node.specs.Staying.{IsFounded, last_of}
use Rattle.link_node.specs.Step.{at_moment, taken, before_broadcast, broadcast_by, before_shown, step_of, change_of}
use Rattle.link_node.specs.declared.event.Change.{Change}
use Rattle.link_node.specs.declared.event.Change.TheVariants.{Same, Published}
use Rattle.session_choice.proofs.Lists.{by_test}
use Rattle.link_node.proofs.MomentLemmas.{leads_taken, rests_taken}

-- ---- after settling nothing of this changes

pub record Stands (m n : Machine) : Type 0 where
  pub moment : n.moment ≡ m.moment
  pub drawn : n.drawn ≡ m.drawn
  pub id : n.id ≡ m.id
  pub sessions : n.sessions ≡ m.sessions
  pub life : n.life ≡ m.life
  pub peers : n.peers ≡ m.peers
  pub client : n.client ≡ m.client
  pub waiting : n.waiting ≡ m.waiting
  pub starts : n.starts ≡ m.starts
  pub client_start : n.client_start ≡ m.client_start
  pub measuring : n.measuring ≡ m.measuring
  pub remeasure_at : n.remeasure_at ≡ m.remeasure_at

it_stands : (m : Machine) → Stands m m
it_stands m = record { moment = refl; drawn = refl; id = refl; sessions = refl; life = refl; peers = refl; client = refl; waiting = refl; starts = refl; client_start = refl; measuring = refl; remeasure_at = refl }

stands_then : (m n o : Machine) → Stands m n → Stands n o → Stands m o
stands_then m n o first second = record {
  moment = second.moment ∙ first.moment;
  drawn = second.drawn ∙ first.drawn;
  id = second.id ∙ first.id;
  sessions = second.sessions ∙ first.sessions;
  life = second.life ∙ first.life;
  peers = second.peers ∙ first.peers;
  client = second.client ∙ first.client;
  waiting = second.waiting ∙ first.waiting;
  starts = second.starts ∙ first.starts;
  client_start = second.client_start ∙ first.client_start;
  measuring = second.measuring ∙ first.measuring;
  remeasure_at = second.remeasure_at ∙ first.remeasure_at;
}

stands_either : (m : Machine) (b : Bool) (n o : Machine) → Stands m n → Stands m o → Stands m (if b then n else o)
stands_either m b n o first second = by_test (λ t. Stands m (if t then n else o)) b (λ _. first) (λ _. second)

stands_broadcast : (e : EventValue) (m : Machine) → Stands m (broadcast_by e m)
unfolding broadcast_after
stands_broadcast (Tick now) m =
    stands_either m (is_broadcast m) (record m { last_broadcast = Some m.moment; changed = false }) m
    (record { moment = refl; drawn = refl; id = refl; sessions = refl; life = refl; peers = refl; client = refl; waiting = refl; starts = refl; client_start = refl; measuring = refl; remeasure_at = refl }) (it_stands m)
stands_broadcast (Rx gate from bytes now) m = it_stands m
stands_broadcast (App commit now) m = it_stands m
stands_broadcast (Audio number commit now) m = it_stands m
stands_broadcast (End now) m = it_stands m

stands_shown : (m : Machine) → Stands m (shown m)
unfolding shown
stands_shown m =
    stands_either m (alike (state_in m) m.published) m (record m { published = state_in m }) (it_stands m)
    (record { moment = refl; drawn = refl; id = refl; sessions = refl; life = refl; peers = refl; client = refl; waiting = refl; starts = refl; client_start = refl; measuring = refl; remeasure_at = refl })

-- what the event made of the node, before it settles
abbrev pub midst : Machine → EventValue → Machine
midst m e = taken e (at_moment (moment_of e) m)

stands_noted : (m : Machine) (e : EventValue) → Stands (settled (midst m e)) (before_broadcast e m)
unfolding before_broadcast noted
stands_noted m e = record { moment = refl; drawn = refl; id = refl; sessions = refl; life = refl; peers = refl; client = refl; waiting = refl; starts = refl; client_start = refl; measuring = refl; remeasure_at = refl }

pub stands_step : (m : Machine) (e : EventValue) → Stands (settled (midst m e)) (step_of m e)
unfolding step_of before_shown
stands_step m e =
    let a = settled (midst m e) in
    let b = before_broadcast e m in
    let c = broadcast_by e b in
    stands_then a b (shown c) (stands_noted m e) (stands_then b c (shown c) (stands_broadcast e b) (stands_shown c))

-- ---- founding

peers_settled : (m : Machine) → (settled m).peers ≡ peers_in (session_in m) m.life
unfolding settled founded renewed
peers_settled m =
    by_test (λ b. (if b then founded (counted m) else counted m).peers ≡ peers_in (session_in m) m.life) (is_left m) (λ _. refl) (λ _. refl)

pub is_left-settled : (m : Machine) → is_left m ≡ true → settled m ≡ founded (counted m)
unfolding settled
is_left-settled m is = rw is refl

pub not_left-settled : (m : Machine) → is_left m ≡ false → settled m ≡ counted m
unfolding settled
not_left-settled m is = rw is refl

founded-is : (m : Machine) → IsFounded m (founded (counted m))
unfolding founded renewed
founded-is m = record { drawn = refl; id = refl; session = refl; offset = refl; others = refl; life = refl }

left_by : (kept now : ℕ) → 0 < kept → now ≡ 0 → (nat_lt 0 kept && (now == 0)) ≡ true
left_by kept now some none = grind (arith, nat_tests)

not_left_by_none : (kept now : ℕ) → kept ≡ 0 → (nat_lt 0 kept && (now == 0)) ≡ false
not_left_by_none kept now none = grind (arith, nat_tests)

pub not_left_by_some : (kept now : ℕ) → 0 < now → (nat_lt 0 kept && (now == 0)) ≡ false
not_left_by_some kept now some = grind (arith, nat_tests)

pub founds : (m : Machine) (e : EventValue) → 0 < m.peers → (step_of m e).peers ≡ 0 → IsFounded m (step_of m e)
founds m e some none =
    let a = midst m e in
    let at = at_moment (moment_of e) m in
    let rest = rests_taken e at in
    let stands = stands_step m e in
    let left : is_left a ≡ true =
    left_by a.peers (peers_in (session_in a) a.life) (subst (λ (n : ℕ). 0 < n) (sym rest.peers) some) (sym (peers_settled a) ∙ (sym stands.peers ∙ none)) in
    let is : IsFounded a (settled a) = subst (λ (n : Machine). IsFounded a n) (sym (is_left-settled a left)) (founded-is a) in
    let config = (leads_taken e at).config in
    let drawn_is : id_drawn a.config.seed a.drawn ≡ id_drawn m.config.seed m.drawn =
    ap (λ c. id_drawn c.seed a.drawn) config ∙ ap (λ n. id_drawn m.config.seed n) rest.drawn in
    record {
      drawn = stands.drawn ∙ is.drawn ∙ ap (λ n. n + 1) rest.drawn;
      id = stands.id ∙ is.id ∙ drawn_is;
      session = ap (λ h. h.current.session) stands.sessions ∙ is.session ∙ drawn_is;
      offset = ap (λ h. h.offset) stands.sessions ∙ is.offset ∙ ap neg_ℤ (sym stands.moment);
      others = ap (λ h. h.others) stands.sessions ∙ is.others;
      life = stands.life ∙ is.life;
    }

pub goes_on : (m : Machine) (e : EventValue) → is_left (midst m e) ≡ false → ((step_of m e).drawn ≡ m.drawn) × ((step_of m e).id ≡ m.id)
goes_on m e not_left =
    let a = midst m e in
    let rest = rests_taken e (at_moment (moment_of e) m) in
    let stands = stands_step m e in
    let is = not_left-settled a not_left in
    (stands.drawn ∙ ap (λ n. n.drawn) is ∙ rest.drawn, stands.id ∙ ap (λ n. n.id) is ∙ rest.id)

pub alone_goes_on : (m : Machine) (e : EventValue) → m.peers ≡ 0 → ((step_of m e).drawn ≡ m.drawn) × ((step_of m e).id ≡ m.id)
alone_goes_on m e none =
    let a = midst m e in
    goes_on m e (not_left_by_none a.peers (peers_in (session_in a) a.life) ((rests_taken e (at_moment (moment_of e) m)).peers ∙ none))

pub among_goes_on : (m : Machine) (e : EventValue) → 0 < (step_of m e).peers → ((step_of m e).drawn ≡ m.drawn) × ((step_of m e).id ≡ m.id)
among_goes_on m e some =
    let a = midst m e in
    goes_on m e (not_left_by_some a.peers (peers_in (session_in a) a.life) (subst (λ (n : ℕ). 0 < n) ((stands_step m e).peers ∙ peers_settled a) some))

-- where no id is drawn, none is founded
pub no_founding : (m : Machine) (e : EventValue) → (step_of m e).drawn ≡ m.drawn → is_left (midst m e) ≡ false
no_founding m e same =
    let a = midst m e in
    by_test (λ b. is_left a ≡ b → is_left a ≡ false) (is_left a)
    (λ _ left. let n : (step_of m e).drawn ≡ m.drawn + 1 =
    (stands_step m e).drawn ∙ ap (λ o. o.drawn) (is_left-settled a left) ∙ (founded-is a).drawn ∙ ap (λ d. d + 1) (rests_taken e (at_moment (moment_of e) m)).drawn in
    absurd (omega (arith, n, same)))
    (λ _ not_left. not_left) refl

-- ---- publishing

published_settled : (m : Machine) → (settled m).published ≡ m.published
unfolding settled founded renewed
published_settled m = by_test (λ b. (if b then founded (counted m) else counted m).published ≡ m.published) (is_left m) (λ _. refl) (λ _. refl)

published_broadcast : (e : EventValue) (m : Machine) → (broadcast_by e m).published ≡ m.published
unfolding broadcast_after
published_broadcast (Tick now) m =
    by_test (λ b. (if b then record m { last_broadcast = Some m.moment; changed = false } else m).published ≡ m.published) (is_broadcast m) (λ _. refl) (λ _. refl)
published_broadcast (Rx gate from bytes now) m = refl
published_broadcast (App commit now) m = refl
published_broadcast (Audio number commit now) m = refl
published_broadcast (End now) m = refl

published_before : (m : Machine) (e : EventValue) → (before_shown e m).published ≡ m.published
unfolding before_shown before_broadcast noted
published_before m e =
    published_broadcast e (before_broadcast e m) ∙ published_settled (midst m e) ∙ (rests_taken e (at_moment (moment_of e) m)).published

record Shows (m : Machine) : Type 0 where
  same : change_in m ≡ Same → (shown m).published ≡ m.published
  new : change_in m ≡ Published → alike (shown m).published m.published ≡ false

shows : (m : Machine) → Shows m
unfolding shown change_in
shows m =
    by_test
    (λ b. alike (state_in m) m.published ≡ b → Shows m) (alike (state_in m) m.published)
    (λ _ is. record { same = λ _. rw is refl; new = λ change. let no : Same ≡ Published = sym (rw is refl) ∙ change in cc })
    (λ _ is. record { same = λ change. let no : Published ≡ Same = sym (rw is refl) ∙ change in cc; new = λ _. rw is is }) refl

pub same_published : (m : Machine) (e : EventValue) → change_of m e ≡ Same → (step_of m e).published ≡ m.published
unfolding change_of step_of
same_published m e is = (shows (before_shown e m)).same is ∙ published_before m e

pub new_published : (m : Machine) (e : EventValue) → change_of m e ≡ Published → alike (step_of m e).published m.published ≡ false
unfolding change_of step_of
new_published m e is =
    subst (λ (s : State). alike (step_of m e).published s ≡ false) (published_before m e) ((shows (before_shown e m)).new is)

last_shown : (change : Change) (old new last : State) (later : List State) → (change ≡ Same → new ≡ old) → last_of new later ≡ last
    → last_of old (shown_by change new ++ later) ≡ last
last_shown Same old new last later same is = ap (λ s. last_of s later) (sym (same refl)) ∙ is
last_shown Published old new last later same is = is

pub last_published : (m : Machine) (es : List EventValue) → last_of m.published (published_by m es) ≡ (machine_after m es).published
unfolding machine_after published_by
last_published m [] = refl
last_published m (e ∷ es) =
    last_shown (change_of m e) m.published (step_of m e).published (machine_after (step_of m e) es).published (published_by (step_of m e) es)
    (same_published m e) (last_published (step_of m e) es)
