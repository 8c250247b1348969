use Rattle.std.proofs.Common.{rules, codes, FitsSigned, w64}
use Rattle.std.specs.Fmt.{decimal, signed_decimal}
use Rattle.std.proofs.lemmas.Int.{to_z-of_z}
use Rattle.link_lines.specs.Words.{truth_text_of}
use Rattle.link_text.proofs.JoinLemmas.{node_pieces}
use Rattle.link_text.proofs.head_line.write_node.Goals as goal

pub returns : goal.returns
returns c =
    let now : FitsSigned w64 c.args.now = search rules in
    rw (c.put-4.ensures.items, c.put_signed.ensures.items, c.put-3.ensures.items, c.put_setup.ensures.items, c.put-2.ensures.items, c.put_own_id.ensures.items, c.put.ensures.items, c.clear.ensures)
    (simp (to_z-of_z w64 c.args.now now) (node_pieces (codes "node ") c.args.config.now.id.0 (decimal c.args.config.now.seed) (signed_decimal c.args.config.now.mpb) (truth_text_of c.args.config.now.sync) (signed_decimal c.args.now)))
