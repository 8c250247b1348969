use Rattle.std.proofs.Common.{◌≡◌, ◌≤◌, ◌<◌, ◌∙◌, ℤ, sym, subst, ap, length, filter, arith, w64}
use Rattle.std.proofs.lemmas.Int.{to_z-of_z}
use Rattle.peer_gateway.specs.Answers.{is_on}
use Rattle.peer_gateway.specs.Happenings.{row_seen}
use Rattle.peer_gateway.specs.Order.{IsWritten}
use Rattle.peer_gateway.specs.declared.row.PeerRow.{PeerRow}
use Rattle.peer_gateway.specs.declared.row.Seen.TheVariants.{New, Known, TableFull}
use Rattle.peer_gateway.proofs.AnswerLemmas.{known, new, full, stands_seen}
use Rattle.peer_gateway.proofs.LifeLemmas.{stands_sighting}
use Rattle.peer_gateway.proofs.peers.Peers.saw.Goals as goal

pub returns-in-Ok-clause-answer : goal.returns-in-Ok-clause-answer
returns-in-Ok-clause-answer c life stands =
    sym (known c.args.gate c.args.id c.args.self.now life c.in-Ok.at stands c.in-Ok.ensures.place)

pub returns-in-Ok-clause-stands : goal.returns-in-Ok-clause-stands
returns-in-Ok-clause-stands c life stands =
    let row = row_seen c.args.gate c.args.id c.args.ttl c.args.session c.args.endpoint c.args.now in
    let is : c.sighted-row.result ≡ row =
    c.sighted-row.ensures
    ∙ ap (λ (m : ℤ). row_seen c.args.gate c.args.id c.args.ttl c.args.session c.args.endpoint m) (to_z-of_z w64 c.args.now c.ranges.now) in
    stands_seen _ Known row _ life (known c.args.gate c.args.id c.args.self.now life c.in-Ok.at stands c.in-Ok.ensures.place)
    (stands_sighting row _ _ life stands
    (subst (λ (r : PeerRow). IsWritten r c.args.self.now.rows c.renew_row.new.self.rows) is c.renew_row.ensures.written))

pub returns-then-rows_on-lt-ROWS-clause-answer : goal.returns-then-rows_on-lt-ROWS-clause-answer
returns-then-rows_on-lt-ROWS-clause-answer c life stands =
    let few : length (filter (is_on c.args.gate) c.args.self.now.rows) < 128 = omega (arith, c.rows_on.ensures) in
    sym (new c.args.gate c.args.id c.args.self.now life c.in-Err.at c.place_of.ensures.in_order stands c.in-Err.ensures.place few)

pub returns-then-rows_on-lt-ROWS-clause-stands : goal.returns-then-rows_on-lt-ROWS-clause-stands
returns-then-rows_on-lt-ROWS-clause-stands c life stands =
    let row = row_seen c.args.gate c.args.id c.args.ttl c.args.session c.args.endpoint c.args.now in
    let is : c.sighted-row.result ≡ row =
    c.sighted-row.ensures
    ∙ ap (λ (m : ℤ). row_seen c.args.gate c.args.id c.args.ttl c.args.session c.args.endpoint m) (to_z-of_z w64 c.args.now c.ranges.now) in
    let few : length (filter (is_on c.args.gate) c.args.self.now.rows) < 128 = omega (arith, c.rows_on.ensures) in
    stands_seen _ New row _ life
    (new c.args.gate c.args.id c.args.self.now life c.in-Err.at c.place_of.ensures.in_order stands c.in-Err.ensures.place few)
    (stands_sighting row _ _ life stands
    (subst (λ (r : PeerRow). IsWritten r c.args.self.now.rows c.add_row.new.self.rows) is c.add_row.ensures.written))

pub returns-else-rows_on-lt-ROWS-clause-answer : goal.returns-else-rows_on-lt-ROWS-clause-answer
returns-else-rows_on-lt-ROWS-clause-answer c life stands =
    let most : 128 ≤ length (filter (is_on c.args.gate) c.args.self.now.rows) = omega (arith, c.rows_on.ensures) in
    sym (full c.args.gate c.args.id c.args.self.now life c.in-Err.at c.place_of.ensures.in_order stands c.in-Err.ensures.place most)

pub returns-else-rows_on-lt-ROWS-clause-stands : goal.returns-else-rows_on-lt-ROWS-clause-stands
returns-else-rows_on-lt-ROWS-clause-stands c life stands =
    let row = row_seen c.args.gate c.args.id c.args.ttl c.args.session c.args.endpoint c.args.now in
    let most : 128 ≤ length (filter (is_on c.args.gate) c.args.self.now.rows) = omega (arith, c.rows_on.ensures) in
    stands_seen _ TableFull row _ life
    (full c.args.gate c.args.id c.args.self.now life c.in-Err.at c.place_of.ensures.in_order stands c.in-Err.ensures.place most) stands
