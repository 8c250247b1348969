use Rattle.std.proofs.Common.{FitsSigned, rules, ap, ◌∙◌, ◌++◌, ℤ, List, get_or, take, length, pos, arith}
use Rattle.std.proofs.lemmas.Int.{to_z-of_z}
use Rattle.std.proofs.lemmas.List.{length-take}
use mir.Syntax.{w16}
use Rattle.step_sequencer.specs.Wav.{sample_bytes}
use Rattle.step_sequencer.proofs.WavLemmas.{none_put, one_more_put, length-put}
use Rattle.step_sequencer.proofs.wav.put_samples.Goals as goal

pub loop-sample-init : goal.loop-sample-init
loop-sample-init c = c.clear.ensures ∙ none_put

pub put_sample-requires : goal.put_sample-requires
put_sample-requires c =
    let samples = c.args.samples.now.items in
    let k = c.loop-sample.sample-index in
    omega (arith, ap length c.loop-sample.invariant, length-put (take k samples), length-take k samples, ap length c.deref-sample-items.ensures.0)

pub loop-sample-preserved : goal.loop-sample-preserved
loop-sample-preserved c =
    let samples = c.args.samples.now.items in
    let k = c.loop-sample.sample-index in
    let bytes = c.loop-sample.bytes.items in
    let fits : FitsSigned w16 (get_or c.deref-sample-items.result.now k (pos 0)) = search rules in
    let put = simp (to_z-of_z w16 _ fits) at c.put_sample.ensures in
    let items = c.deref-sample-items.ensures.0 in
    put
    ∙ ap (λ (xs : List ℤ). bytes ++ sample_bytes (get_or xs k (pos 0))) items
    ∙ one_more_put samples k bytes (omega (arith, ap length items)) c.loop-sample.invariant
