use Rattle.std.proofs.Common.{◌≡◌, Some, subst, get_or}
use Rattle.std.specs.Prelude.{slice_get}
use Rattle.session_choice.specs.History.{known_of}
use Rattle.session_choice.specs.Table.{Table, HasDistinctIds}
use Rattle.session_choice.proofs.DistinctLemmas.{one_place, get_there}
use Rattle.session_choice.proofs.TableLemmas.{known_at}
use Rattle.session_choice.proofs.sessions.Sessions.other.Goals as goal

pub returns-clause-alone : goal.returns-clause-alone
returns-clause-alone c h j taking stands at same =
    let distinct : HasDistinctIds c.args.self.now = subst HasDistinctIds c.self.view_is c.self.invariant.distinct in
    let here : slice_get c.args.self.now.others c.args.k ≡ Some c.index.result.now =
    get_there c.args.self.now.others c.args.k c.index.result.now c.requires
    (subst (λ (t : Table). c.index.result.now ≡ get_or t.others c.args.k c.index.result.now) c.self.view_is c.index.ensures) in
    one_place c.args.self.now.others j c.args.k (known_of taking) c.index.result.now distinct.1 (known_at c.args.self.now h j taking stands at) here same
