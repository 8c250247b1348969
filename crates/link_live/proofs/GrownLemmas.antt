-- What a port has given and posted, one call after another.
use Rattle.std.proofs.Common.{◌≡◌, List, [], ◌∷◌, ◌++◌, Option, Some, None, Bool, true, false, refl, sym, ap, subst, ◌∙◌, append_assoc, append-nil}
use Rattle.std.proofs.lemmas.List.{map-append}
use Rattle.std.specs.Prelude.{IfSome}
use Rattle.lk_outside.specs.Arrivals.{ArrivalValue, PostValue}
use Rattle.lk_outside.specs.Contents.{BothTell}
use Rattle.lk_outside.specs.Port.{PortContents, GivesFrom}
use Rattle.link_node.specs.Event.{SendingValue}
use Rattle.link_live.specs.Network.{HasGrown, post_of, posts_of}
use Rattle.link_live.specs.Running.{HasPosted}

-- two changes one after the other, where both tell or none does
pub both_tell : {A : Type 0} (P Q R : A → A → Type 0) (x y z : Option A) → ((a b c : A) → P a b → Q b c → R a c) → BothTell P x y → BothTell Q y z → BothTell R x z
both_tell P Q R None None None joins first second = tt
both_tell P Q R (Some a) (Some b) (Some c) joins first second = joins a b c first second
both_tell P Q R None None (Some c) joins first second = second
both_tell P Q R None (Some b) z joins first second = absurd first
both_tell P Q R (Some a) None z joins first second = absurd first
both_tell P Q R (Some a) (Some b) None joins first second = second

pub itself_told : {A : Type 0} (P : A → A → Type 0) (x y : Option A) → y ≡ x → ((a : A) → P a a) → BothTell P x y
itself_told P x y same stays = subst (λ o. BothTell P x o) (sym same) (alike x)
  where
    alike : (o : Option _) → BothTell P o o
    alike None = tt
    alike (Some a) = stays a

pub grown_none : (contents : PortContents) → HasGrown [] [] contents contents
grown_none contents = record { left = refl; given = sym (append-nil contents.given); posted = sym (append-nil contents.posted) }

pub gives_none : (contents : PortContents) → GivesFrom [] contents contents
gives_none contents = record { left = refl; given = sym (append-nil contents.given); posted = refl }

pub grown-append : (arrivals more : List ArrivalValue) (posts further : List PostValue) (a b c : PortContents) → HasGrown arrivals posts a b → HasGrown more further b c
    → HasGrown (arrivals ++ more) (posts ++ further) a c
grown-append arrivals more posts further a b c first second = record {
  left = first.left ∙ ap (λ l. arrivals ++ l) second.left ∙ sym (append_assoc arrivals more c.left);
  given = second.given ∙ ap (λ l. l ++ more) first.given ∙ append_assoc a.given arrivals more;
  posted = second.posted ∙ ap (λ l. l ++ further) first.posted ∙ append_assoc a.posted posts further;
}

given_grown : (arrivals : List ArrivalValue) (a b : PortContents) → GivesFrom arrivals a b → HasGrown arrivals [] a b
given_grown arrivals a b gives = record { left = gives.left; given = gives.given; posted = gives.posted ∙ sym (append-nil a.posted) }

-- what a turn receives and posts
pub grown_turn : (arrivals new : List ArrivalValue) (posts further : List PostValue) (told one two three : Option PortContents)
    → BothTell (HasGrown arrivals posts) told one → BothTell (GivesFrom new) one two → BothTell (HasGrown [] further) two three
    → BothTell (HasGrown (arrivals ++ new) (posts ++ further)) told three
grown_turn arrivals new posts further told one two three before given posted =
    both_tell (HasGrown (arrivals ++ new) posts) (HasGrown [] further) (HasGrown (arrivals ++ new) (posts ++ further)) told two three
    (λ a b c first second. subst (λ (l : List ArrivalValue). HasGrown l (posts ++ further) a c) (append-nil (arrivals ++ new)) (grown-append (arrivals ++ new) [] posts further a b c first second))
    (both_tell (HasGrown arrivals posts) (GivesFrom new) (HasGrown (arrivals ++ new) posts) told one two
    (λ a b c first second. subst (λ (l : List PostValue). HasGrown (arrivals ++ new) l a c) (append-nil posts) (grown-append arrivals new posts [] a b c first (given_grown new b c second)))
    before given)
    posted

-- where nothing is left, nothing is left after it
pub still_none_left : (further : List PostValue) (x y : Option PortContents) → BothTell (HasGrown [] further) x y
    → IfSome x (λ contents. contents.left ≡ []) → IfSome y (λ contents. contents.left ≡ [])
still_none_left further None None grown none = tt
still_none_left further None (Some b) grown none = absurd grown
still_none_left further (Some a) None grown none = tt
still_none_left further (Some a) (Some b) grown none = sym grown.left ∙ none

pub still_none_given : (new : List ArrivalValue) (x y : Option PortContents) → BothTell (GivesFrom new) x y
    → IfSome x (λ contents. contents.left ≡ []) → IfSome y (λ contents. contents.left ≡ [])
still_none_given new None None grown none = tt
still_none_given new None (Some b) grown none = absurd grown
still_none_given new (Some a) None grown none = tt
still_none_given new (Some a) (Some b) grown none = later_none new b.left (sym none ∙ grown.left)
  where
    later_none : (xs ys : List ArrivalValue) → [] ≡ xs ++ ys → ys ≡ []
    later_none [] ys e = sym e
    later_none (x ∷ xs) ys e = absurd (cc e)

-- ---- what is posted of what the machine sends

pub posts-append : (sends more : List SendingValue) → posts_of (sends ++ more) ≡ posts_of sends ++ posts_of more
posts-append sends more = map-append post_of sends more

-- all is posted, while the port works
pub sent_turn : (posts : List PostValue) (before sends after : List SendingValue) (failed failed_then : Bool) (told told_then : Option PortContents)
    → after ≡ before ++ sends → (posted : HasPosted sends failed failed_then told told_then) → (failed ≡ false → posts ≡ posts_of before) → failed_then ≡ false
    → posts ++ posted.posts ≡ posts_of after
sent_turn posts before sends after failed failed_then told told_then grows posted sent works =
    let all : (failed ≡ false) × (posted.unsent ≡ []) = posted.all works in
    ap (λ l. l ++ posted.posts) (sent all.0)
    ∙ ap (λ l. posts_of before ++ l) (sym (posted.split ∙ ap (λ l. posted.posts ++ l) all.1 ∙ append-nil posted.posts))
    ∙ sym (posts-append before sends) ∙ sym (ap posts_of grows)

-- the first of it is posted, in any case
pub some_sent_turn : (posts unsent : List PostValue) (before sends after : List SendingValue) (failed failed_then : Bool) (told told_then : Option PortContents)
    → after ≡ before ++ sends → (posted : HasPosted sends failed failed_then told told_then) → (failed ≡ false → posts ≡ posts_of before)
    → posts_of before ≡ posts ++ unsent → (rest : List PostValue) × (posts_of after ≡ (posts ++ posted.posts) ++ rest)
some_sent_turn posts unsent before sends after false failed_then told told_then grows posted sent some = (
  posted.unsent,
  ap posts_of grows ∙ posts-append before sends ∙ ap (λ l. l ++ posts_of sends) (sym (sent refl)) ∙ ap (λ l. posts ++ l) posted.split
      ∙ sym (append_assoc posts posted.posts posted.unsent),
)
some_sent_turn posts unsent before sends after true failed_then told told_then grows posted sent some = (
  unsent ++ posts_of sends,
  ap posts_of grows ∙ posts-append before sends ∙ ap (λ l. l ++ posts_of sends) some ∙ append_assoc posts unsent (posts_of sends)
      ∙ ap (λ l. l ++ (unsent ++ posts_of sends)) (sym (ap (λ l. posts ++ l) (posted.none refl).1 ∙ append-nil posts)),
)
