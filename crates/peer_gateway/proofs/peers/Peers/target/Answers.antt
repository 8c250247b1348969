use Rattle.std.proofs.Common.{◌≡◌, Some, None, Option, Bor, sym, subst, ap, ◌∙◌}
use Rattle.std.specs.Prelude.{option_map}
use Rattle.std.specs.List.{find}
use Rattle.peer_gateway.specs.Happenings.{StandsFor}
use Rattle.peer_gateway.specs.Picks.{is_founding, is_answering}
use Rattle.peer_gateway.specs.Table.{Table}
use Rattle.peer_gateway.specs.declared.row.PeerRow.{PeerRow}
use Rattle.peer_gateway.proofs.PickLemmas.{target_found, target_other, target_none}
use Rattle.peer_gateway.proofs.peers.Peers.target.Goals as goal

abbrev pointed : Option (Bor PeerRow) → Option PeerRow
pointed o = option_map (λ (r : Bor PeerRow). r.now) o

pub returns-in-Some : goal.returns-in-Some
returns-in-Some c life stands =
    let rows = c.self.inside.rows.items in
    let e : find (is_founding c.args.session) rows ≡ Some c.in-Some.row.now = sym c.first_of_founder.ensures ∙ ap pointed c.in-Some.is in
    c.pinged.ensures
    ∙ target_found c.args.session _ life c.in-Some.row.now c.self.invariant.0.in_order (subst (λ (t : Table). StandsFor t life) (sym c.self.view_is) stands) e

pub returns-in-Some-first_answering : goal.returns-in-Some-first_answering
returns-in-Some-first_answering c life stands =
    let rows = c.self.inside.rows.items in
    let none : find (is_founding c.args.session) rows ≡ None = sym c.first_of_founder.ensures ∙ ap pointed c.in-None.is in
    let e : find (is_answering c.args.session) rows ≡ Some c.in-Some-first_answering.row.now =
    sym c.first_answering.ensures ∙ ap pointed c.in-Some-first_answering.is in
    c.pinged-in-Some-first_answering.ensures
    ∙ target_other c.args.session _ life c.in-Some-first_answering.row.now c.self.invariant.0.in_order
    (subst (λ (t : Table). StandsFor t life) (sym c.self.view_is) stands) none e

pub returns-in-None-first_answering : goal.returns-in-None-first_answering
returns-in-None-first_answering c life stands =
    let rows = c.self.inside.rows.items in
    let none : find (is_founding c.args.session) rows ≡ None = sym c.first_of_founder.ensures ∙ ap pointed c.in-None.is in
    let e : find (is_answering c.args.session) rows ≡ None = sym c.first_answering.ensures ∙ ap pointed c.in-None-first_answering.is in
    target_none c.args.session _ life c.self.invariant.0.in_order (subst (λ (t : Table). StandsFor t life) (sym c.self.view_is) stands) none e
