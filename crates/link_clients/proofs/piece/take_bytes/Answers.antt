use Rattle.std.proofs.Common.{◌≡◌, refl, sym, subst, ◌∙◌, IsSome}
use Rattle.link_clients.specs.declared.piece.Going.TheVariants as going
use Rattle.link_clients.proofs.TakenLemmas.{not_both, piece_on, piece_stopped, piece_taken}
use Rattle.link_clients.proofs.piece.take_bytes.Goals.{in-On, in_default}
use Rattle.link_clients.proofs.piece.take_bytes.Goals as goal

pub loop-byte-init : goal.loop-byte-init
loop-byte-init g c = record {
  taken = λ start first left was. was;
  opened = refl;
  is_open = c.requires.opened;
  late = refl;
}

pub returns-then-not-matches-clause-taken : goal.returns-then-not-matches-clause-taken
returns-then-not-matches-clause-taken g c = λ start first left was.
    let not_on : c.take_byte-went.result ≡ going.On → ⊥ = elim c.match-matches.branch [ in-On w ↦ not_both _ w.matches-is c.if-not-matches.true | in_default w ↦ w.in_default.not-On ] in
    piece_stopped _ _ _ start _ _ first _ _ _ _ _ c.args.bytes.now left c.loop-byte.byte-index 0 _ c.loop-byte.invariant.late c.loop-byte-test.true
    not_on
    c.take_byte-went.ensures.taken
    (c.loop-byte.invariant.taken start first left was)

pub loop-byte-preserved : goal.loop-byte-preserved
loop-byte-preserved g c =
    let on : c.take_byte-went.result ≡ going.On = elim c.match-matches.branch [ in-On w ↦ w.in-On.is | in_default w ↦ not_both _ c.if-not-matches.false w.matches-is ] in
    record {
      taken = λ start first left was.
          piece_on _ _ _ start _ _ first _ _ _ _ _ c.args.bytes.now left c.loop-byte.byte-index 0 _ c.loop-byte.invariant.late c.loop-byte-test.true
          on
          c.take_byte-went.ensures.taken
          (c.loop-byte.invariant.taken start first left was);
      opened = c.take_byte-went.ensures.opened ∙ c.loop-byte.invariant.opened;
      is_open = subst IsSome (sym c.take_byte-went.ensures.opened) c.loop-byte.invariant.is_open;
      late = c.take_byte-went.ensures.late ∙ c.loop-byte.invariant.late;
    }

pub returns-clause-taken : goal.returns-clause-taken
returns-clause-taken g c = λ start first left was.
    piece_taken _ _ start _ first _ _ _ c.args.bytes.now left c.loop-byte.byte-index c.loop-byte-test.false (c.loop-byte.invariant.taken start first left was)
