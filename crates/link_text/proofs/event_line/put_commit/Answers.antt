use Rattle.std.proofs.Common.{rules, FitsSigned, w64}
use Rattle.std.specs.Fmt.{signed_decimal}
use Rattle.std.proofs.lemmas.Int.{to_z-of_z}
use Rattle.link_script.specs.ReplayScript.{quantum_words, start_words, timeline_words}
use Rattle.link_text.proofs.JoinLemmas.{commit_pieces}
use Rattle.link_text.proofs.event_line.put_commit.Goals as goal

pub returns-clause-items : goal.returns-clause-items
returns-clause-items c =
    let commit = c.args.commit.now in
    let at : FitsSigned w64 c.args.commit.now.at = search rules in
    rw (c.put_edited_quantum.ensures.items, c.put_edited_start.ensures.items, c.put_edited_timeline.ensures.items, c.put_signed.ensures.items)
    (simp (to_z-of_z w64 c.args.commit.now.at at)
    (commit_pieces c.args.line.now.items (signed_decimal commit.at) (timeline_words commit.timeline) (start_words commit.start) (quantum_words commit.quantum)))
