use Rattle.std.proofs.Common.{sym, ◌∙◌, rules}
use Rattle.std.proofs.lemmas.List.Elements.{All-push, All-same}
use Rattle.lk_base.specs.Endpoint.{IsEndpoint}
use Rattle.drum_machine.proofs.WordLemmas.{no_endpoint, one_more_endpoint}
use Rattle.drum_machine.proofs.words.endpoints_of.Goals as goal

pub returns-in_err-endpoint_of-clause-none : goal.returns-in_err-endpoint_of-clause-none
returns-in_err-endpoint_of-clause-none c =
    rw c.from_residual.ensures
    (λ peers say all few.
    no_endpoint c.args.words.now c.loop-word.word-index c.word-item.result c.loop-word-test.true c.word-item.is
    (λ e range same. c.in_err-endpoint_of.ensures.none e range (c.as_bytes.ensures.value ∙ same)) peers say all)

pub loop-word-preserved : goal.loop-word-preserved
loop-word-preserved c =
    let read = c.in_ok-endpoint_of.ensures.some in
    record {
      said = one_more_endpoint c.args.words.now c.loop-word.word-index c.word-item.result _ _ _ c.loop-word-test.true c.word-item.is
          (sym c.as_bytes.ensures.value ∙ read.1) c.push.ensures.items c.loop-word.invariant.said;
      each = All-same IsEndpoint _ _ c.push.ensures.items (All-push IsEndpoint _ _ c.loop-word.invariant.each read.0);
      len = search rules;
    }
