-- Causes that exclude each other, and an end by the first cause that holds.
use Rattle.std.proofs.Common.{◌≡◌, ◌<◌, ◌≤◌, ◌-◌, ◌^◌, ◌++◌, length, Bool, false, true, List, ℕ, Option, Some, None, IsSome, ap, sym, subst, ◌∙◌, arith, length-append}
use Rattle.std.proofs.lemmas.List.{append-nil}
use Rattle.lk_outside.specs.Faults.{Rose}
use Rattle.lk_outside.specs.Source.{Takes, IsAtEnd}
use Rattle.lk_outside.specs.Stream.{Stream}
use Rattle.lk_outside.specs.Transfer.{TakesOver}
use Rattle.daemon_laws.specs.OneStatus.{End}
use Rattle.link_commands.specs.Statuses.{WasRead}

-- ---- the first cause

-- the end that this cause tells, or where it doesn't hold one of the rest
pub data First (P : Type 0) (told : P → End) (Rest : End → Type 0) (end : End) : Type 0 where
  here : (cause : P) → end ≡ told cause → First P told Rest end
  later : (P → ⊥) → Rest end → First P told Rest end

-- there is one end at most
abbrev pub IsOne : (End → Type 0) → Type 0
IsOne Ends = (one other : End) → Ends one → Ends other → one ≡ other

pub first_is_one : (P : Type 0) (told : P → End) (Rest : End → Type 0) → ((p q : P) → told p ≡ told q) → IsOne Rest
    → IsOne (First P told Rest)
first_is_one P told Rest same rest one other (here cause is) (here cause' is') = is ∙ same cause cause' ∙ sym is'
first_is_one P told Rest same rest one other (here cause is) (later never more) = absurd (never cause)
first_is_one P told Rest same rest one other (later never more) (here cause is) = absurd (never cause)
first_is_one P told Rest same rest one other (later never more) (later never' more') = rest one other more more'

-- ---- what excludes what

-- a count that can rise does not both rise and stay
pub rose_and_quiet : (before now : ℕ) → before < 2 ^ 64 - 1 → Rose before now → now ≡ before → ⊥
rose_and_quiet before now counts rose quiet = omega (arith, rose.risen)

-- a journal has not both ended and not
pub ended_and_not : (ended : Bool) → ended ≡ true → ended ≡ false → ⊥
ended_and_not ended is_ended goes_on = cc

-- what was taken up to the end is all that was told
pub taken_is_all : (xs bytes : List ℕ) (after : Option (List ℕ)) → Takes (Some xs) bytes after → IsAtEnd after → xs ≡ bytes
taken_is_all xs bytes None takes end = cc
taken_is_all xs bytes (Some ys) takes end =
    let all : Some xs ≡ Some (bytes ++ ys) = takes in
    let same : xs ≡ bytes ++ ys = cc in
    same ∙ ap (λ (rest : List ℕ). bytes ++ rest) end ∙ append-nil bytes

pub one_text : (told after : Option (List ℕ)) (first second : List ℕ) → IsSome told → Takes told first after → Takes told second after
    → IsAtEnd after → first ≡ second
one_text None after first second tells one two end = cc
one_text (Some xs) after first second tells one two end = sym (taken_is_all xs first after one end) ∙ taken_is_all xs second after two end

-- an input that tells is read as one text
pub one_read : (limit : ℕ) (input input' : Stream) (first second : List ℕ) → IsSome input.told
    → WasRead limit input input' first → WasRead limit input input' second → first ≡ second
one_read limit input input' first second tells one two =
    one_text input.told input'.told first second tells one.whole.taken two.whole.taken one.whole.ended

-- the text that an input tells is what is read of it
pub told_is_read : (limit : ℕ) (input input' : Stream) (bytes text : List ℕ) → input.told ≡ Some bytes → WasRead limit input input' text
    → bytes ≡ text
told_is_read limit input input' bytes text told read =
    taken_is_all bytes text input'.told
    (let P : Option (List ℕ) → Type 0 = λ before. Takes before text input'.told in subst P told read.whole.taken) read.whole.ended

-- what is within the limit is not more than the limit
pub more_and_whole : (limit : ℕ) (input input' : Stream) (bytes : List ℕ) → IsSome input.told
    → TakesOver limit input.told input'.told → WasRead limit input input' bytes → ⊥
more_and_whole limit input input' bytes tells over read =
    let same : over.bytes ≡ bytes = one_text input.told input'.told over.bytes bytes tells over.taken read.whole.taken read.whole.ended in
    let long : length over.bytes ≡ length bytes = ap length same in
    omega (arith, read.within, over.more)

-- what is taken is no more than what was told
taken_is_some : (xs bytes : List ℕ) (after : Option (List ℕ)) → Takes (Some xs) bytes after → length xs < length bytes → ⊥
taken_is_some xs bytes None takes more = cc
taken_is_some xs bytes (Some ys) takes more =
    let all : Some xs ≡ Some (bytes ++ ys) = takes in
    let same : xs ≡ bytes ++ ys = cc in
    let long : length xs ≡ length (bytes ++ ys) = ap length same in
    omega (arith, length-append bytes ys)

-- of a text within the limit no more than the limit is taken
pub within_and_over : (limit : ℕ) (bytes : List ℕ) (input : Stream) (after : Option (List ℕ)) → input.told ≡ Some bytes → length bytes ≤ limit
    → TakesOver limit input.told after → ⊥
within_and_over limit bytes input after told within over =
    taken_is_some bytes over.bytes after
    (let P : Option (List ℕ) → Type 0 = λ before. Takes before over.bytes after in subst P told over.taken)
    (omega (arith, within, over.more))
