use Rattle.std.proofs.Common.{sym, ◌∙◌, w64}
use Rattle.std.proofs.lemmas.Int.{to_z-of_z}
use Rattle.link_live.proofs.AskLemmas.{moment_fits}
use Rattle.drum_machine.proofs.RehearsalLemmas.{edited_none, edited_one}
use Rattle.drum_machine.proofs.rehearsal.edit_due.Goals as goal

pub returns-in_default-clause-edited : goal.returns-in_default-clause-edited
returns-in_default-clause-edited g c = edited_none _ _ (sym c.change_due.ensures ∙ c.in_default.is)

pub returns-clause-edited : goal.returns-clause-edited
returns-clause-edited g c =
    edited_one _ _ c.args.now _ _ _ _ _ _ _ (sym c.change_due.ensures ∙ c.in-Some.is) c.requires.moment.1 (to_z-of_z w64 _ (moment_fits _ c.requires.moment.0)) c.capture_audio-capture.ensures.read c.edit.ensures
