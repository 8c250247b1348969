use Rattle.std.proofs.Common.{refl, sym}
use Rattle.link_node.proofs.PartLemmas.{limit_back}
use Rattle.link_node.proofs.node.Node.session_by.Goals as goal

pub returns-in-Err-clause-value : goal.returns-in-Err-clause-value
returns-in-Err-clause-value c m stands =
    let none = c.in-Err.ensures.none.0 refl in
    sym (rw (limit_back _ c.requires.at, c.current-current.ensures.timeline m.sessions stands.sessions, c.current-current.ensures.xform m.sessions stands.sessions) at none)

pub returns-in-Ok-clause-later : goal.returns-in-Ok-clause-later
returns-in-Ok-clause-later c = rw (← c.current-current.ensures.held) c.in-Ok.ensures.later
