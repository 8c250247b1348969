-- The cases of a measured offset.
use Rattle.std.proofs.Common.{◌≡◌, ℤ, ◌≤◌, Bool, true, false, length, Some, None, refl, ap, ◌∙◌}
use Rattle.lk_base.specs.IdOrder.{same_id}
use Rattle.lk_base.specs.Timeline.{IsTidy}
use Rattle.lk_base.specs.declared.ids.NodeId.{NodeId}
use Rattle.session_choice.specs.Changes.{key_of}
use Rattle.session_choice.specs.Keyed.{found_by, updated_by}
use Rattle.session_choice.specs.Table.{Table, HasDistinctIds, HasTidyTimelines}
use Rattle.session_choice.specs.Winning.{wins_over}
use Rattle.session_choice.specs.declared.known.Known.{Known}
use Rattle.session_choice.specs.declared.verdict.Verdict.TheVariants.{Joined, Stayed, Remeasured, Unknown}
use Rattle.session_choice.proofs.DistinctLemmas.{all_updated, all_found, same-equal, found-same, length-updated, distinct-joined}
use Rattle.session_choice.proofs.TableLemmas.{verdict_in, measured_in}

module _ (session : NodeId) (offset now : ℤ) (table : Table) where
  pub verdict-current : same_id table.current.session session ≡ true → Remeasured ≡ verdict_in session offset now table
  verdict-current same = rw same refl

  pub measured-current : same_id table.current.session session ≡ true → record table { offset = offset } ≡ measured_in session offset now table
  measured-current same = rw same refl

  pub verdict-unknown : same_id table.current.session session ≡ false → found_by key_of session table.others ≡ None → Unknown ≡ verdict_in session offset now table
  verdict-unknown other none = rw (other, none) refl

  pub measured-unknown : same_id table.current.session session ≡ false → found_by key_of session table.others ≡ None → table ≡ measured_in session offset now table
  measured-unknown other none = rw (other, none) refl

  wins_known : (known : Known) → found_by key_of session table.others ≡ Some known → (b : Bool)
      → wins_over session offset table.current.session table.offset now ≡ b → wins_over known.session offset table.current.session table.offset now ≡ b
  wins_known known found b wins =
      ap (λ id. wins_over id offset table.current.session table.offset now) (same-equal known.session session (found-same session table.others known found)) ∙ wins

  -- the table once another session is joined
  abbrev pub joined_with : Known → Table
  joined_with known = record { current = known; offset = offset; others = updated_by key_of session (λ _. table.current) table.others }

  module _ (known : Known) (other : same_id table.current.session session ≡ false) (found : found_by key_of session table.others ≡ Some known) where
    pub verdict-joined : wins_over session offset table.current.session table.offset now ≡ true → Joined ≡ verdict_in session offset now table
    verdict-joined wins = rw (other, found, wins_known known found true wins) refl

    pub verdict-stayed : wins_over session offset table.current.session table.offset now ≡ false → Stayed ≡ verdict_in session offset now table
    verdict-stayed wins = rw (other, found, wins_known known found false wins) refl

    pub measured-joined : wins_over session offset table.current.session table.offset now ≡ true → joined_with known ≡ measured_in session offset now table
    measured-joined wins =
        rw (other, found, wins_known known found true wins, same-equal known.session session (found-same session table.others known found)) refl

    pub measured-stayed : wins_over session offset table.current.session table.offset now ≡ false → table ≡ measured_in session offset now table
    measured-stayed wins = rw (other, found, wins_known known found false wins) refl

    pub few-joined : length table.others ≤ 64 → length (joined_with known).others ≤ 64
    few-joined few = rw length-updated few

    pub ids-joined : HasDistinctIds table → HasDistinctIds (joined_with known)
    ids-joined all = distinct-joined session table.current known table.others all found

    pub tidy-joined : HasTidyTimelines table → HasTidyTimelines (joined_with known)
    tidy-joined tidy = record {
      current = all_found session (λ k. IsTidy k.timeline) table.others known tidy.others found;
      others = all_updated session (λ k. IsTidy k.timeline) (λ _. table.current) (λ _ _. tidy.current) table.others tidy.others;
    }
