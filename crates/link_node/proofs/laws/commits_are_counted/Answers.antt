use Rattle.std.proofs.Common.{ℕ, ◌≤◌, sym, subst, arith}
use Rattle.link_node.specs.Event.{EventValue, Rx, Tick, App, Audio, End, FitsKind, audio_after}
use Rattle.link_node.proofs.MomentLemmas.{leads_step}
use Rattle.link_node.proofs.laws.commits_are_counted.Goals as goal

audio_rises : (gates app audio : ℕ) (e : EventValue) → FitsKind gates app audio e → audio ≤ audio_after audio e
audio_rises gates app audio (Rx gate from bytes now) fits = omega arith
audio_rises gates app audio (Tick now) fits = omega arith
audio_rises gates app audio (App commit now) fits = omega arith
audio_rises gates app audio (Audio number commit now) fits = omega (arith, fits.1)
audio_rises gates app audio (End now) fits = omega arith

pub returns-clause-app : goal.returns-clause-app
returns-clause-app c = λ m e. (leads_step m e).app

pub returns-clause-audio : goal.returns-clause-audio
returns-clause-audio c = λ m e. (leads_step m e).audio

pub returns-clause-never_falls : goal.returns-clause-never_falls
returns-clause-never_falls c = λ m e fits. subst (λ (n : ℕ). m.audio ≤ n) (sym (leads_step m e).audio) (audio_rises _ _ m.audio e fits.1)
