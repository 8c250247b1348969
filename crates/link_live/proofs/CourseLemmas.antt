-- By how a run ended, what it met.
use Rattle.std.proofs.Common.{◌≡◌, Bool, true, false, refl}
use Rattle.link_live.specs.LiveRun.{first_of}
use Rattle.link_live.specs.declared.run.LiveEnd.TheVariants as end

pub well_course : (captured failed played full : Bool) → end.Well ≡ first_of captured failed played full → (captured ≡ true) × (failed ≡ false) × (played ≡ true) × (full ≡ false)
well_course true false true false is = (refl, refl, refl, refl)
well_course true false true true is = absurd (cc is)
well_course true false false full is = absurd (cc is)
well_course true true played full is = absurd (cc is)
well_course false failed played full is = absurd (cc is)

pub events_course : (captured failed played full : Bool) → end.Events ≡ first_of captured failed played full → (captured ≡ true) × (failed ≡ false) × (played ≡ true) × (full ≡ true)
events_course true false true true is = (refl, refl, refl, refl)
events_course true false true false is = absurd (cc is)
events_course true false false full is = absurd (cc is)
events_course true true played full is = absurd (cc is)
events_course false failed played full is = absurd (cc is)

pub audio_course : (captured failed played full : Bool) → end.Audio ≡ first_of captured failed played full → (captured ≡ true) × (failed ≡ false) × (played ≡ false)
audio_course true false false full is = (refl, refl, refl)
audio_course true false true true is = absurd (cc is)
audio_course true false true false is = absurd (cc is)
audio_course true true played full is = absurd (cc is)
audio_course false failed played full is = absurd (cc is)

pub port_course : (captured failed played full : Bool) → end.Port ≡ first_of captured failed played full → (captured ≡ true) × (failed ≡ true)
port_course true true played full is = (refl, refl)
port_course true false true true is = absurd (cc is)
port_course true false true false is = absurd (cc is)
port_course true false false full is = absurd (cc is)
port_course false failed played full is = absurd (cc is)
