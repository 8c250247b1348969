use Rattle.std.proofs.Common.{◌∙◌, ◌++◌, sym, ap, rules, append_assoc, append-nil, FitsSigned, w64, List, ℕ}
use Rattle.std.proofs.lemmas.Int.{to_z-of_z}
use Rattle.link_text.proofs.JoinLemmas.{profile_none, profile_some}
use Rattle.link_text.proofs.state_line.put_profile.Goals as goal

pub returns-then-version-eq1-clause-items : goal.returns-then-version-eq1-clause-items
returns-then-version-eq1-clause-items c =
    sym (ap (λ (xs : List ℕ). c.args.line.now.items ++ xs) (profile_none c.args.version c.args.state.now c.if-version-eq1.true) ∙ append-nil c.args.line.now.items)

pub returns-clause-items : goal.returns-clause-items
returns-clause-items c =
    let quantum : FitsSigned w64 c.args.state.now.quantum = search rules in
    rw (c.put_signed.ensures.items, c.put-2.ensures.items, c.put_session.ensures.items, c.put.ensures.items, profile_some c.args.version c.args.state.now c.if-version-eq1.false)
    (simp append_assoc (simp (to_z-of_z w64 c.args.state.now.quantum quantum)))
