-- Other sessions are looked at in order, and forgotten where nobody needs them.
use Rattle.std.proofs.Common.{◌≡◌, ◌∙◌, ◌≤◌, ◌+◌, ◌++◌, ◌∷◌, [], ℕ, zero, suc, List, Bool, true, false, length, length-append, map, filter, refl, sym, ap, append_assoc, append-nil, arith, Some, None}
use Rattle.std.proofs.lemmas.List.{length-map}
use Rattle.std.specs.Prelude.{if◌then◌else◌, option_map, slice_get, unwrap_or}
use Rattle.lk_base.specs.IdOrder.{same_id}
use Rattle.lk_base.specs.declared.ids.NodeId.{NodeId}
use Rattle.lk_base.specs.declared.timeline.Timeline.{Timeline}
use Rattle.peer_gateway.proofs.KeyLemmas.{test_from_id}
use Rattle.session_choice.specs.Best.{best_of}
use Rattle.session_choice.specs.History.{History, Taking, StandsFor, session_of, known_of, begun, forgotten}
use Rattle.session_choice.specs.Keyed.{without_by}
use Rattle.session_choice.specs.Table.{Table}
use Rattle.session_choice.specs.declared.known.Known.{Known}
use Rattle.link_node.specs.Machine.{Machine}
use Rattle.link_node.specs.Standing.{HasParts, gates_of, app_of, audio_of}
use Rattle.link_node.specs.Tick.{is_needed}
use Rattle.link_node.specs.declared.node.Node.{Node}
use Rattle.link_node.proofs.IdLemmas.{differ-other}

-- ---- one session fewer

shorter_by : (here : Bool) (first : Taking) (rest : List Taking) (k : ℕ) (session : NodeId) → same_id first.session session ≡ here → option_map session_of (slice_get (first ∷ rest) k) ≡ Some session → ((j : ℕ) → option_map session_of (slice_get rest j) ≡ Some session → suc (length (without_by session_of session rest)) ≡ length rest) → suc (length (if here then rest else first ∷ without_by session_of session rest)) ≡ suc (length rest)
shorter_by true first rest k session same is later = refl
shorter_by false first rest zero session other is later =
    let e : first.session ≡ session = cc in
    let same = test_from_id first.session session e in
    cc
shorter_by false first rest (suc k) session other is later = ap suc (later k is)

without_shorter : (takings : List Taking) (k : ℕ) (session : NodeId) → option_map session_of (slice_get takings k) ≡ Some session → suc (length (without_by session_of session takings)) ≡ length takings
without_shorter [] k session is = cc
without_shorter (first ∷ rest) k session is =
    shorter_by (same_id first.session session) first rest k session refl is (λ j at. without_shorter rest j session at)

-- ---- a table stands for a history in which each session took one timeline

abbrev told_of : Known → Taking
told_of known = begun known.session known.timeline

only_best : (test : Bool) (tl : Timeline) → unwrap_or (if test then Some tl else None) tl ≡ tl
only_best true tl = refl
only_best false tl = refl

best_alone : (tl : Timeline) → best_of tl [] ≡ tl
unfolding best_of
best_alone tl = only_best _ tl

known_told : (known : Known) → known_of (told_of known) ≡ known
known_told known = ap (λ (tl : Timeline). record { session = known.session; timeline = tl }) (best_alone known.timeline)

map_told : (list : List Known) → list ≡ map known_of (map told_of list)
map_told [] = refl
map_told (known ∷ list) = rw (known_told known, ← map_told list) refl

abbrev history_of : Table → History
history_of table = record { current = told_of table.current; offset = table.offset; others = map told_of table.others }

stands_for_itself : (table : Table) → StandsFor table (history_of table)
stands_for_itself table = record { current = sym (known_told table.current); offset = refl; others = map_told table.others }

pub one_fewer : (before after : Table) (k : ℕ) (session : NodeId) → ((h : History) → StandsFor before h → option_map session_of (slice_get h.others k) ≡ Some session) → ((h : History) → StandsFor before h → StandsFor after (forgotten session h)) → suc (length after.others) ≡ length before.others
one_fewer before after k session at stands =
    let h = history_of before in
    let now = stands h (stands_for_itself before) in
    let fewer = without_shorter h.others k session (at h (stands_for_itself before)) in
    let left : length after.others ≡ length (without_by session_of session h.others) = ap length now.others ∙ simp length-map in
    let all : length h.others ≡ length before.others = simp length-map in
    ap suc left ∙ fewer ∙ all

-- ---- the session at a place

-- the first of those that are left
pub record IsFirst (rest : List Taking) (session : NodeId) : Type 0 where
  pub first : Taking
  pub later : List Taking
  pub split : rest ≡ first ∷ later
  pub is : first.session ≡ session

pub first_left : (front rest : List Taking) (k : ℕ) (session : NodeId) → length front ≡ k → option_map session_of (slice_get (front ++ rest) k) ≡ Some session → IsFirst rest session
first_left [] [] k session count is = absurd (cc)
first_left [] (first ∷ later) zero session count is = record { first = first; later = later; split = refl; is = cc }
first_left [] (first ∷ later) (suc k) session count is = absurd (cc)
first_left (x ∷ front) rest zero session count is = absurd (cc)
first_left (x ∷ front) rest (suc k) session count is = first_left front rest k session (cc) is

IsAlone : List Taking → ℕ → NodeId → Type 0
IsAlone takings k session = (j : ℕ) (taking : Taking) → slice_get takings j ≡ Some taking → taking.session ≡ session → j ≡ k

without_at : (front later : List Taking) (first : Taking) (session : NodeId) → first.session ≡ session → ((j : ℕ) (taking : Taking) → slice_get (front ++ first ∷ later) j ≡ Some taking → taking.session ≡ session → j ≡ length front) → without_by session_of session (front ++ first ∷ later) ≡ front ++ later
without_at [] later first session is alone = rw (test_from_id first.session session is) refl
without_at (x ∷ front) later first session is alone =
    let differ : x.session ≡ session → ⊥ = λ same. (let no : 0 ≡ suc (length front) = alone 0 x refl same in absurd (cc)) in
    rw (differ-other x.session session differ)
    (ap (λ (rest : List Taking). x ∷ rest)
    (without_at front later first session is (λ j taking at same. let more : suc j ≡ suc (length front) = alone (suc j) taking at same in cc)))

-- ---- as far as the loop has come

abbrev pub with_others : List Taking → Machine → Machine
with_others others m = record m { sessions = record m.sessions { others = others } }

-- those before the place are needed, and those from there on are still to be looked at
pub record HasForgotten (node : Node) (k : ℕ) (m : Machine) : Type 0 where
  pub front : List Taking
  pub rest : List Taking
  pub stands : HasParts node (with_others (front ++ rest) m)
  pub count : length front ≡ k
  pub leads : front ++ filter (is_needed m) rest ≡ filter (is_needed m) m.sessions.others

pub record AreForgotten (before node : Node) (k : ℕ) : Type 0 where
  pub forgotten : (m : Machine) → HasParts before m → HasForgotten node k m
  pub gates : gates_of node ≡ gates_of before
  pub app : app_of node ≡ app_of before
  pub audio : audio_of node ≡ audio_of before

pub forgotten_none : (node : Node) (m : Machine) → HasParts node m → HasForgotten node 0 m
forgotten_none node m stands = record { front = []; rest = m.sessions.others; stands = stands; count = refl; leads = refl }

-- the session at the place is needed
pub forgotten_needed : (node : Node) (k : ℕ) (session : NodeId) (m : Machine) → (has : HasForgotten node k m) → (is : IsFirst has.rest session) → is_needed m is.first ≡ true → HasForgotten node (k + 1) m
forgotten_needed node k session m has is needed = record {
  front = has.front ++ is.first ∷ [];
  rest = is.later;
  stands = rw append_assoc (rw is.split at has.stands);
  count = simp length-append (omega (arith, has.count));
  leads =
      let leads : has.front ++ filter (is_needed m) (is.first ∷ is.later) ≡ filter (is_needed m) m.sessions.others = rw is.split at has.leads in
      rw append_assoc (rw needed at leads);
}

-- or it is forgotten
pub forgotten_one : (node next : Node) (k : ℕ) (session : NodeId) (m : Machine) → (has : HasForgotten node k m) → (is : IsFirst has.rest session) → is_needed m is.first ≡ false → ((j : ℕ) (taking : Taking) → slice_get (has.front ++ has.rest) j ≡ Some taking → taking.session ≡ session → j ≡ k) → HasParts next (with_others (without_by session_of session (has.front ++ has.rest)) m) → HasForgotten next k m
forgotten_one node next k session m has is idle alone stands = record {
  front = has.front;
  rest = is.later;
  stands =
      let at_end : (j : ℕ) (taking : Taking) → slice_get (has.front ++ is.first ∷ is.later) j ≡ Some taking → taking.session ≡ session → j ≡ length has.front = rw (← is.split, has.count) alone in
      rw (is.split, without_at has.front is.later is.first session is.is at_end) at stands;
  count = has.count;
  leads =
      let leads : has.front ++ filter (is_needed m) (is.first ∷ is.later) ≡ filter (is_needed m) m.sessions.others = rw is.split at has.leads in
      rw idle at leads;
}

-- none is left to look at
none_left : (front rest : List Taking) (k : ℕ) → length front ≡ k → length (front ++ rest) ≤ k → rest ≡ []
none_left front [] k count few = refl
none_left front (first ∷ rest) k count few = absurd (let all = simp length-append at few in omega (arith, all, count))

pub forgotten_all : (node : Node) (k : ℕ) (m : Machine) → (has : HasForgotten node k m) → length (has.front ++ has.rest) ≤ k → HasParts node (with_others (filter (is_needed m) m.sessions.others) m)
forgotten_all node k m has few =
    let none = none_left has.front has.rest k has.count few in
    let front : has.front ≡ filter (is_needed m) m.sessions.others = sym (append-nil has.front) ∙ (rw none at has.leads) in
    rw (← front, ← append-nil has.front) (rw none at has.stands)
