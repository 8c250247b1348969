-- Each move of a pass keeps the queue's rule.
use Rattle.std.proofs.Common.{◌≡◌, ◌≢◌, ℕ, zero, suc, ◌+◌, true, false, true≢false, List, [], ◌∷◌, ◌++◌, length, set, sym, refl, ap, ◌∙◌, subst, ⊎_elim, append_assoc, arith}
use mathlib.Core.Option.{some, some-ne-none, some-injective}
use lib.ListN.{get_elem?}
use Rattle.crossbeam_queue.specs.Fifo.{Pushes, Pops, Forks, Merges, Learns}
use Rattle.crossbeam_queue.proofs.Lists.{at_set}
use Rattle.audio_handoff.specs.Cell.{Grows}
use Rattle.audio_handoff.proofs.CellLists.{snoc_at, grows_by, grows_none}
use Rattle.client_state.specs.declared.commit.Commit.{Commit}
use Rattle.link_shared.specs.declared.queue.Hand.{Hand}
use Rattle.link_shared.specs.declared.queue.Item.{Item}
use Rattle.link_shared.specs.declared.queue.Item.TheVariants as item
use Rattle.link_shared.specs.Queue.{commits_in, quits_in, IsTidyItem, AreTidyItems, Flow, FitsFlow, IsKept, knower, opener, pushing_part, popping_part, shown_part, after_hearing, whole_of, after_push, after_pop, Pushed, Popped, SeesRest, SeesHeard}

-- ---- items

pub commits_in-push : (items : List Item) (x : Item) → commits_in (items ++ x ∷ []) ≡ commits_in items ++ commits_in (x ∷ [])
commits_in-push [] x = refl
commits_in-push (item.Commit commit ∷ items) x = ap (λ l. commit ∷ l) (commits_in-push items x)
commits_in-push (item.Quit ∷ items) x = commits_in-push items x

pub quits_in-push : (items : List Item) (x : Item) → quits_in (items ++ x ∷ []) ≡ quits_in items + quits_in (x ∷ [])
quits_in-push [] x = omega arith
quits_in-push (item.Commit commit ∷ items) x = quits_in-push items x
quits_in-push (item.Quit ∷ items) x = let rest = quits_in-push items x in omega arith

tidy-push : (items : List Item) (x : Item) → AreTidyItems items → IsTidyItem x → AreTidyItems (items ++ x ∷ [])
tidy-push [] x tidy one = (one, tt)
tidy-push (i ∷ items) x tidy one = (tidy.0, tidy-push items x tidy.1 one)

-- ---- hands

abbrev AllHands : (ℕ → Hand → Type 0) → List Hand → Type 0
AllHands F hands = (at : ℕ) (hand : Hand) → get_elem? hands at ≡ some hand → F at hand

all_set : (F : ℕ → Hand → Type 0) (hands : List Hand) (id : ℕ) (new : Hand) → F id new → ((at : ℕ) (hand : Hand) → at ≢ id → get_elem? hands at ≡ some hand → F at hand) → AllHands F (set hands id new)
all_set F hands id new mine others at hand e = ⊎_elim (λ (t : (at ≡ id) × (new ≡ hand)). subst (λ (z : ℕ × Hand). F z.0 z.1) (λ k. (sym t.0 k, t.1 k)) mine)
    (λ (t : (at ≢ id) × (get_elem? hands at ≡ some hand)). others at hand t.0 t.1) (at_set hands id at new hand e)

all_more : (F : ℕ → Hand → Type 0) (hands : List Hand) (new : Hand) → F (length hands) new → AllHands F hands → AllHands F (hands ++ new ∷ [])
all_more F hands new mine others at hand e = ⊎_elim (others at hand)
    (λ (t : (at ≡ length hands) × (new ≡ hand)). subst (λ (z : ℕ × Hand). F z.0 z.1) (λ k. (sym t.0 k, t.1 k)) mine) (snoc_at hands new hand at e)

-- the same items, and other hands that fit the same flow
with_hands : (items : List Item) (hands next : List Hand) (k : IsKept items hands) → AllHands (FitsFlow k.flow) next → IsKept items next
with_hands items hands next k each = record { flow = k.flow; order = k.order; quits = k.quits; tidy = k.tidy; each = each }

-- the same where the ends have gone to other passes
with_ends : (items : List Item) (hands next : List Hand) (k : IsKept items hands) (pusher popper : ℕ) → AllHands (FitsFlow (record k.flow { pusher = pusher; popper = popper })) next → IsKept items next
with_ends items hands next k pusher popper each = record { flow = record k.flow { pusher = pusher; popper = popper }; order = k.order; quits = k.quits; tidy = k.tidy; each = each }

off : false ≡ true → ⊥
off e = true≢false (sym e)

knower_fits : (flow : Flow) (at : ℕ) (pushed : List Commit) → Grows pushed flow.pushed → FitsFlow flow at (knower pushed)
knower_fits flow at pushed begins = record {
  pushes = λ e. absurd (off e);
  pops = λ e. absurd (off e);
  pushed_begins = begins;
  heard_begins = grows_none flow.pushed;
}

-- a pass that is neither end doesn't care where the ends are
not_an_end : (flow : Flow) (pusher popper at : ℕ) (hand : Hand) → (hand.pushes ≡ true → ⊥) → (hand.pops ≡ true → ⊥) → FitsFlow flow at hand → FitsFlow (record flow { pusher = pusher; popper = popper }) at hand
not_an_end flow pusher popper at hand no_push no_pop h = record {
  pushes = λ e. absurd (no_push e);
  pops = λ e. absurd (no_pop e);
  pushed_begins = h.pushed_begins;
  heard_begins = h.heard_begins;
}

pub begins : IsKept [] (opener ∷ [])
begins = record { flow = none_yet; order = refl; quits = refl; tidy = tt; each = only }
  where
    none_yet : Flow
    none_yet = record { pushed = []; popped = []; quits_pushed = 0; quits_popped = 0; pusher = 0; popper = 0 }

    only : (at : ℕ) (hand : Hand) → get_elem? (opener ∷ []) at ≡ some hand → FitsFlow none_yet at hand
    only zero hand e = subst (FitsFlow none_yet 0) (some-injective _ _ e) (record {
      pushes = λ _. (refl, refl, refl);
      pops = λ _. (refl, refl, refl);
      pushed_begins = grows_none [];
      heard_begins = grows_none [];
    })
    only (suc at) hand e = absurd (some-ne-none hand (sym e))

-- ---- passes made and joined

module _ (id : ℕ) (v : Hand) where
  pub shows : Forks IsKept id v v (shown_part v)
  shows items hands k at =
      let mine = k.each id v at in
      let F : ℕ → Hand → Type 0 = FitsFlow k.flow in
      with_hands items hands _ k
      (all_more F (set hands id v) (shown_part v) (knower_fits k.flow _ v.pushed mine.pushed_begins)
      (all_set F hands id v mine (λ j u apart e. k.each j u e)))

  pub parts : v.pushes ≡ true → v.pops ≡ true → Forks IsKept id v (pushing_part v) (popping_part v)
  parts pushes pops items hands k at =
      let mine = k.each id v at in
      let push = mine.pushes pushes in
      let pop = mine.pops pops in
      let left = pushing_part v in
      let vs : List Hand = set hands id left in
      let F : ℕ → Hand → Type 0 = FitsFlow (record k.flow { pusher = id; popper = length vs }) in
      with_ends items hands _ k id (length vs)
      (all_more F vs (popping_part v)
      (record { pushes = λ e. absurd (off e); pops = λ _. (refl, pop.1, pop.2); pushed_begins = grows_none k.flow.pushed; heard_begins = grows_none k.flow.pushed })
      (all_set F hands id left
      (record { pushes = λ _. (refl, push.1, push.2); pops = λ e. absurd (off e); pushed_begins = mine.pushed_begins; heard_begins = mine.heard_begins })
      (λ j u apart e. let theirs = k.each j u e in
      not_an_end k.flow id (length vs) j u (λ p. apart ((theirs.pushes p).0 ∙ sym push.0)) (λ p. apart ((theirs.pops p).0 ∙ sym pop.0)) theirs)))

  -- the other pass stood at its place before this one's view was changed
  was_there : (hands : List Hand) (other : ℕ) (both u : Hand) → ¬ (other ≡ id) → get_elem? (set hands id both) other ≡ some u → get_elem? hands other ≡ some u
  was_there hands other both u apart there = ⊎_elim (λ (t : (other ≡ id) × (both ≡ u)). absurd (apart t.0)) (λ (t : (other ≢ id) × (get_elem? hands other ≡ some u)). t.1) (at_set hands id other both u there)

  pub hears : (other : ℕ) (u : Hand) → Merges IsKept id v other u (after_hearing v u) (knower [])
  hears other u items hands k at apart there =
      let mine = k.each id v at in
      let both = after_hearing v u in
      let theirs = k.each other u (was_there hands other both u apart there) in
      let F : ℕ → Hand → Type 0 = FitsFlow k.flow in
      with_hands items hands _ k
      (all_set F (set hands id both) other (knower []) (knower_fits k.flow other [] (grows_none k.flow.pushed))
      (λ j w _ e. all_set F hands id both
      (record { pushes = mine.pushes; pops = mine.pops; pushed_begins = mine.pushed_begins; heard_begins = theirs.pushed_begins })
      (λ i y _ f. k.each i y f) j w e))

  pub wholes : (other : ℕ) (u : Hand) → v.pops ≡ true → u.pushes ≡ true → Merges IsKept id v other u (whole_of v u) (knower [])
  wholes other u pops pushes items hands k at apart there =
      let both = whole_of v u in
      let pop = (k.each id v at).pops pops in
      let theirs = k.each other u (was_there hands other both u apart there) in
      let push = theirs.pushes pushes in
      let flow : Flow = record k.flow { pusher = id; popper = id } in
      let F : ℕ → Hand → Type 0 = FitsFlow flow in
      let G : ℕ → Hand → Type 0 = λ j w. j ≢ other → F j w in
      let set_once : AllHands G (set hands id both) = all_set G hands id both
      (λ _. record { pushes = λ _. (refl, push.1, push.2); pops = λ _. (refl, pop.1, pop.2); pushed_begins = theirs.pushed_begins; heard_begins = grows_none k.flow.pushed })
      (λ j w different e not_other. let its = k.each j w e in
      not_an_end k.flow id id j w (λ p. not_other ((its.pushes p).0 ∙ sym push.0)) (λ p. different ((its.pops p).0 ∙ sym pop.0)) its) in
      with_ends items hands _ k id id
      (all_set F (set hands id both) other (knower []) (knower_fits flow other [] (grows_none k.flow.pushed)) (λ j w different e. set_once j w e different))

  -- ---- pushes and pops

  pushes_commit : (n : ℕ) (commit : Commit) → v.pushes ≡ true → IsTidyItem (item.Commit commit) → Pushes IsKept n id v (item.Commit commit) (Pushed v (item.Commit commit))
  pushes_commit n commit pushes tidy items hands room k at =
      let mine = k.each id v at in
      let push = mine.pushes pushes in
      let x : Item = item.Commit commit in
      let w : Hand = after_push v x in
      let flow : Flow = record k.flow { pushed = k.flow.pushed ++ commit ∷ [] } in (
        w,
        record {
          flow = flow;
          order = ap (λ l. l ++ commit ∷ []) k.order ∙ (append_assoc k.flow.popped (commits_in items) (commit ∷ []) ∙ ap (λ l. k.flow.popped ++ l) (sym (commits_in-push items x)));
          quits = let q = k.quits in let more = quits_in-push items x in omega arith;
          tidy = tidy-push items x k.tidy tidy;
          each = all_set (FitsFlow flow) hands id w
              (record {
                pushes = λ _. (push.0, ap (λ l. l ++ commit ∷ []) push.1, push.2);
                pops = mine.pops;
                pushed_begins = ([], ap (λ l. l ++ commit ∷ []) (sym push.1) ∙ sym (append_nil_of w.pushed));
                heard_begins = grows_by v.heard k.flow.pushed commit mine.heard_begins;
              })
              (λ j u apart e. let theirs = k.each j u e in record {
                pushes = λ p. absurd (apart ((theirs.pushes p).0 ∙ sym push.0));
                pops = theirs.pops;
                pushed_begins = grows_by u.pushed k.flow.pushed commit theirs.pushed_begins;
                heard_begins = grows_by u.heard k.flow.pushed commit theirs.heard_begins;
              });
        },
        refl,
      )
    where
      append_nil_of : (l : List Commit) → l ++ [] ≡ l
      append_nil_of [] = refl
      append_nil_of (c ∷ cs) = ap (λ k. c ∷ k) (append_nil_of cs)

  pushes_quit : (n : ℕ) → v.pushes ≡ true → Pushes IsKept n id v item.Quit (Pushed v item.Quit)
  pushes_quit n pushes items hands room k at =
      let mine = k.each id v at in
      let push = mine.pushes pushes in
      let w : Hand = after_push v item.Quit in
      let flow : Flow = record k.flow { quits_pushed = k.flow.quits_pushed + 1 } in (
        w,
        record {
          flow = flow;
          order = k.order ∙ ap (λ l. k.flow.popped ++ l) (sym (commits_in-push items item.Quit ∙ nothing_more (commits_in items)));
          quits = let q = k.quits in let more = quits_in-push items item.Quit in omega arith;
          tidy = tidy-push items item.Quit k.tidy tt;
          each = all_set (FitsFlow flow) hands id w
              (record {
                pushes = λ _. (push.0, push.1, ap (λ n. n + 1) push.2);
                pops = mine.pops;
                pushed_begins = mine.pushed_begins;
                heard_begins = mine.heard_begins;
              })
              (λ j u apart e. let theirs = k.each j u e in record {
                pushes = λ p. absurd (apart ((theirs.pushes p).0 ∙ sym push.0));
                pops = theirs.pops;
                pushed_begins = theirs.pushed_begins;
                heard_begins = theirs.heard_begins;
              });
        },
        refl,
      )
    where
      nothing_more : (l : List Commit) → l ++ [] ≡ l
      nothing_more [] = refl
      nothing_more (c ∷ cs) = ap (λ k. c ∷ k) (nothing_more cs)

  pub pushes : (n : ℕ) (x : Item) → v.pushes ≡ true → IsTidyItem x → Pushes IsKept n id v x (Pushed v x)
  pushes n (item.Commit commit) may tidy = pushes_commit n commit may tidy
  pushes n item.Quit may tidy = pushes_quit n may

  pub pops : v.pops ≡ true → Pops IsKept id v (Popped v)
  pops may (item.Commit commit) items hands k at =
      let mine = k.each id v at in
      let pop = mine.pops may in
      let w : Hand = after_pop v (item.Commit commit) in
      let flow : Flow = record k.flow { popped = k.flow.popped ++ commit ∷ [] } in (
        w,
        record {
          flow = flow;
          order = k.order ∙ sym (append_assoc k.flow.popped (commit ∷ []) (commits_in items));
          quits = k.quits;
          tidy = k.tidy.1;
          each = all_set (FitsFlow flow) hands id w
              (record {
                pushes = mine.pushes;
                pops = λ _. (pop.0, ap (λ l. l ++ commit ∷ []) pop.1, pop.2);
                pushed_begins = mine.pushed_begins;
                heard_begins = mine.heard_begins;
              })
              (λ j u apart e. let theirs = k.each j u e in record {
                pushes = theirs.pushes;
                pops = λ p. absurd (apart ((theirs.pops p).0 ∙ sym pop.0));
                pushed_begins = theirs.pushed_begins;
                heard_begins = theirs.heard_begins;
              });
        },
        (refl, k.tidy.0),
      )
  pops may item.Quit items hands k at =
      let mine = k.each id v at in
      let pop = mine.pops may in
      let w : Hand = after_pop v item.Quit in
      let flow : Flow = record k.flow { quits_popped = k.flow.quits_popped + 1 } in (
        w,
        record {
          flow = flow;
          order = k.order;
          quits = let q = k.quits in omega arith;
          tidy = k.tidy.1;
          each = all_set (FitsFlow flow) hands id w
              (record {
                pushes = mine.pushes;
                pops = λ _. (pop.0, pop.1, ap (λ n. n + 1) pop.2);
                pushed_begins = mine.pushed_begins;
                heard_begins = mine.heard_begins;
              })
              (λ j u apart e. let theirs = k.each j u e in record {
                pushes = theirs.pushes;
                pops = λ p. absurd (apart ((theirs.pops p).0 ∙ sym pop.0));
                pushed_begins = theirs.pushed_begins;
                heard_begins = theirs.heard_begins;
              });
        },
        (refl, k.tidy.0),
      )

  -- ---- what is learned

  pub sees_rest : Learns IsKept id v (SeesRest v)
  sees_rest items hands k at pushes pops =
      let mine = k.each id v at in
      let push = mine.pushes pushes in
      let pop = mine.pops pops in (
        push.1 ∙ (k.order ∙ ap (λ l. l ++ commits_in items) (sym pop.1)),
        push.2 ∙ (k.quits ∙ ap (λ n. n + quits_in items) (sym pop.2)),
      )

  pub sees_heard : Learns IsKept id v (SeesHeard v)
  sees_heard items hands k at pushes = let mine = k.each id v at in subst (λ l. Grows v.heard l) (sym (mine.pushes pushes).1) mine.heard_begins
