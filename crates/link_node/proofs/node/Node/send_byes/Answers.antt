use Rattle.std.proofs.Common.{◌∙◌, ◌++◌, ap, sym, arith, append-nil}
use Rattle.link_node.specs.Telling.{byes_in, bye_of, sent_from}
use Rattle.link_node.proofs.GateLemmas.{sent-on, sent-all}
use Rattle.link_node.proofs.node.Node.send_byes.Goals as goal

pub loop-k-init : goal.loop-k-init
unfolding sent_from
loop-k-init c = record {
  sends = λ m stands. sym (append-nil _);
  len = omega arith;
}

pub loop-k-preserved : goal.loop-k-preserved
loop-k-preserved c = record {
  sends = λ m stands.
      sent-on (bye_of m) m.config.gates c.loop-k.k c.args.sends.now c.loop-k.sends c.send_bye.new.sends (c.loop-k.invariant.sends m stands) (c.send_bye.ensures.sends m stands);
  len = omega arith;
}

pub returns-clause-sends : goal.returns-clause-sends
unfolding byes_in
returns-clause-sends c m stands =
    c.loop-k.invariant.sends m stands
    ∙ ap (λ sent. c.args.sends.now ++ sent) (sent-all (bye_of m) c.args.self.now.config m.config c.loop-k.k stands.config (omega arith))
