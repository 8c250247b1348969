use Rattle.std.proofs.Common.{arith}
use Rattle.std.proofs.lemmas.Int.{ints}
use Rattle.client_state.proofs.StartLemmas.{later-held, later-seen}
use Rattle.client_state.proofs.starts.later_start.Goals as goal

pub returns-then-seen-held-clause-latest : goal.returns-then-seen-held-clause-latest
returns-then-seen-held-clause-latest c = λ first later e.
    later-seen c.args.held.now c.args.seen.now first later (omega (arith, ints)) e

pub returns-else-seen-held-clause-latest : goal.returns-else-seen-held-clause-latest
returns-else-seen-held-clause-latest c = λ first later e.
    later-held c.args.held.now c.args.seen.now first later (omega (arith, ints)) e
