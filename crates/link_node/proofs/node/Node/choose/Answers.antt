use Rattle.std.proofs.Common.{◌≡◌, ◌⊎◌, inl, inr, ◌∙◌, sym}
use Rattle.session_choice.specs.declared.verdict.Verdict.{Verdict}
use Rattle.session_choice.specs.declared.verdict.Verdict.TheVariants.{Stayed, Unknown}
use Rattle.link_node.specs.Machine.{Machine}
use Rattle.link_node.specs.Measuring.{measured, chosen}
use Rattle.link_node.specs.Standing.{HasParts}
use Rattle.link_node.specs.declared.node.Node.{Node}
use Rattle.link_node.proofs.node.Node.choose.Goals as goal

-- where neither is so, nothing more happens
passed : (node : Node) (m : Machine) (verdict : Verdict) → (verdict ≡ Stayed) ⊎ (verdict ≡ Unknown) → HasParts node m → HasParts node (chosen verdict m)
passed node m verdict (inl is) stands = rw is stands
passed node m verdict (inr is) stands = rw is stands

pub returns-in-Joined-clause-stands : goal.returns-in-Joined-clause-stands
unfolding measured
returns-in-Joined-clause-stands c m stands =
    rw (sym (c.weigh.ensures.answer m stands) ∙ c.in-Joined.is)
    (c.remeasure_later.ensures.stands _ (c.renew.ensures.stands _ (c.forget_starts.ensures.stands _ (c.weigh.ensures.stands m stands))))

pub returns-in-Remeasured-clause-stands : goal.returns-in-Remeasured-clause-stands
unfolding measured
returns-in-Remeasured-clause-stands c m stands =
    rw (sym (c.weigh.ensures.answer m stands) ∙ c.in-Remeasured.is)
    (c.remeasure_later-in-Remeasured.ensures.stands _ (c.renew-in-Remeasured.ensures.stands _ (c.weigh.ensures.stands m stands)))

pub returns-in-Stayed-clause-stands : goal.returns-in-Stayed-clause-stands
unfolding measured
returns-in-Stayed-clause-stands c m stands =
    rw (sym (c.weigh.ensures.answer m stands)) (passed _ _ _ c.in-Stayed.is (c.weigh.ensures.stands m stands))
