-- What calls of the devices count, and what a device has left.
use Rattle.std.proofs.Common.{◌≡◌, ℕ, ◌⊎◌, [], Option, Some, None, IfSome, inl, inr, refl, ap, subst, ◌∙◌}
use Rattle.lk_base.specs.declared.block.Block.{Block}
use Rattle.lk_outside.specs.Audio.{AudioContents, GivesBlock, IsAtLast}
use Rattle.lk_outside.specs.Contents.{BothTell}
use Rattle.lk_outside.specs.Faults.{Rose}
use Rattle.drum_machine.specs.Ends.{HasNoMore, counted}
use Rattle.drum_machine.specs.Player.{BeginsAt}

-- ---- counts

pub rose_from : (a b c : ℕ) → b ≡ a → Rose b c → Rose a c
rose_from a b c same rose = subst (λ (n : ℕ). Rose n c) same rose

pub one_rose : (a a_mid a_then b b_mid b_then : ℕ) → a_mid ≡ a → b_mid ≡ b → Rose a_mid a_then ⊎ Rose b_mid b_then → Rose a a_then ⊎ Rose b b_then
one_rose a a_mid a_then b b_mid b_then same_a same_b rose =
    elim rose [ inl first ↦ inl (rose_from a a_mid a_then same_a first) | inr second ↦ inr (rose_from b b_mid b_then same_b second) ]

pub counts_stay : (a a_then b b_then c c_then : ℕ) → a_then ≡ a → b_then ≡ b → c_then ≡ c → counted a_then b_then c_then ≡ counted a b c
counts_stay a a_then b b_then c c_then first second third =
    ap (λ (n : ℕ). counted n b_then c_then) first ∙ ap (λ (n : ℕ). counted a n c_then) second ∙ ap (λ (n : ℕ). counted a b n) third

-- a device that has no more, of which no call had failed before
pub no_more : (a a_mid a_then : ℕ) (told : Option AudioContents) → a_mid ≡ a → HasNoMore (counted a_mid 0 0) (counted a_then 0 0) told
    → Rose a a_then ⊎ ((a_then ≡ a) × IfSome told (λ contents. contents.left ≡ []))
no_more a a_mid a_then told same more =
    subst (λ (n : ℕ). Rose n a_then ⊎ ((a_then ≡ n) × IfSome told (λ contents. contents.left ≡ []))) same more

-- a device that closes has no block left
pub none_left : (before after : Option AudioContents) → BothTell IsAtLast before after → IfSome after (λ contents. contents.left ≡ [])
none_left None None ends = tt
none_left None (Some after) ends = absurd ends
none_left (Some before) None ends = absurd ends
none_left (Some before) (Some after) ends = ap (λ (contents : AudioContents). contents.left) ends.stays ∙ ends.none_left

-- and all stays
pub stays_at_last : (before after : Option AudioContents) → BothTell IsAtLast before after → after ≡ before
stays_at_last None None ends = refl
stays_at_last None (Some after) ends = absurd ends
stays_at_last (Some before) None ends = absurd ends
stays_at_last (Some before) (Some after) ends = ap Some ends.stays

-- the first block of those that were left, where the device tells them
pub begins_there : (block : Block) (before after : Option AudioContents) → BothTell (GivesBlock block) before after → BeginsAt before block.start
begins_there block None None gives = tt
begins_there block None (Some after) gives = absurd gives
begins_there block (Some before) None gives = absurd gives
begins_there block (Some before) (Some after) gives = (block, after.left, gives.left, refl)
