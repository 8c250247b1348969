use Rattle.std.proofs.Common.{refl, sym}
use Rattle.session_choice.proofs.TableLemmas.{known_begun}
use Rattle.session_choice.proofs.sessions.Sessions.new.Goals as goal

pub returns-clause-stands : goal.returns-clause-stands
returns-clause-stands c =
    record { current = sym (known_begun c.args.session c.args.timeline); offset = refl; others = c.in_ok-with_capacity.ensures.items }
