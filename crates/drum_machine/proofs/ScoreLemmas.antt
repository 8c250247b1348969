-- What a rehearsal tells of steps, and of a block.
use Rattle.std.proofs.Common.{◌≡◌, ℕ, ◌+◌, ◌<◌, ℤ, pos, Bool, true, false, List, [], ◌++◌, length, take, get_or, Option, ap, subst}
use Rattle.std.specs.Bool.{OnTrue, OnFalse}
use Rattle.client_state.specs.declared.state.State.{State}
use Rattle.lk_outside.specs.Sink.{Appends}
use Rattle.lk_outside.specs.Transfer.{AppendsPrefix}
use Rattle.step_sequencer.specs.Pattern.{strokes_at}
use Rattle.step_sequencer.specs.Steps.{struck_from}
use Rattle.step_sequencer.specs.declared.pattern.Pattern.{Pattern}
use Rattle.step_sequencer.specs.declared.steps.Hit.{Hit}
use Rattle.drum_machine.specs.Score.{step_line_of, steps_text_of}
use Rattle.drum_machine.proofs.TextLemmas.{appends_more, none_appended, prefix_after, texts_front, texts_more}

-- ---- steps

pub no_hit : Hit
no_hit = record { frame = 0; step = pos 0 }

pub no_steps : (pattern : Pattern) (before : Option (List ℕ)) → Appends before (steps_text_of pattern []) before
unfolding steps_text_of
no_steps pattern before = none_appended before

module _ (pattern : Pattern) (hits : List Hit) (k : ℕ) (hit : Hit) (line : List ℕ) (before now after : Option (List ℕ))
    (in_list : k < length hits) (is : get_or hits k no_hit ≡ hit) (spelled : line ≡ step_line_of hit.step hit.frame (strokes_at pattern hit.step))
    (so_far : Appends before (steps_text_of pattern (take k hits)) now) where
  pub one_more_step : Appends now line after → Appends before (steps_text_of pattern (take (k + 1) hits)) after
  unfolding steps_text_of
  one_more_step next =
      appends_more before now after _ _ _ (texts_more (λ (h : Hit). step_line_of h.step h.frame (strokes_at pattern h.step)) hits k no_hit hit in_list is) so_far
      (subst (λ bytes. Appends now bytes after) spelled next)

  pub front_of_steps : AppendsPrefix now line after → AppendsPrefix before (steps_text_of pattern hits) after
  unfolding steps_text_of
  front_of_steps next =
      texts_front (λ (h : Hit). step_line_of h.step h.frame (strokes_at pattern h.step)) hits k no_hit hit before now after in_list is so_far
      (subst (λ bytes. AppendsPrefix now bytes after) spelled next)

-- ---- a block

pub struck_at : (shown : State) (origin given : ℤ) (first : ℕ) → origin ≡ given → struck_from shown origin first 960 ≡ struck_from shown given first 960
struck_at shown origin given first is = ap (λ (o : ℤ). struck_from shown o first 960) is

module _ (pattern : Pattern) (hits given : List Hit) (text : List ℕ) (before now after : Option (List ℕ)) (are : hits ≡ given) (first : Appends before text now) where
  pub block_told : (told : Bool) → OnTrue told (Appends now (steps_text_of pattern hits) after) → OnTrue told (Appends before (text ++ steps_text_of pattern given) after)
  block_told true second = appends_more before now after text (steps_text_of pattern hits) _ (ap (λ (h : List Hit). text ++ steps_text_of pattern h) are) first second
  block_told false second = tt

  pub block_part : (told : Bool) → OnFalse told (AppendsPrefix now (steps_text_of pattern hits) after) → OnFalse told (AppendsPrefix before (text ++ steps_text_of pattern given) after)
  block_part true second = tt
  block_part false second = prefix_after before now after text (steps_text_of pattern hits) _ (ap (λ (h : List Hit). text ++ steps_text_of pattern h) are) first second
