-- Only for proofs: what a call makes of the sessions that are kept, each with one timeline.
use Rattle.std.specs.Prelude.{int_lt, nat_lt, List, [], ◌∷◌, ◌++◌, length, if◌then◌else◌, Option, Some, None}
use Rattle.lk_base.specs.declared.ids.NodeId.{NodeId}
use Rattle.lk_base.specs.declared.timeline.Timeline.{Timeline}
use Rattle.session_choice.specs.Keyed.{found_by, updated_by}
use Rattle.session_choice.specs.declared.known.Known.{Known}
use Rattle.session_choice.specs.declared.verdict.Saw.{Saw}
use Rattle.session_choice.specs.declared.verdict.Saw.TheVariants.{Taken, Kept, New, Full}

abbrev pub key_of : Known → NodeId
key_of known = known.session

-- a known session: the timeline that counts stays, unless the one that was seen has the greater beat origin
abbrev pub saw_held : Known → Timeline → Saw
saw_held known seen = if int_lt known.timeline.beat seen.beat then Taken else Kept

abbrev pub latest_of : Timeline → Timeline → Timeline
latest_of held seen = if int_lt held.beat seen.beat then seen else held

abbrev pub held_after : Timeline → Known → Known
held_after seen known = record known { timeline = latest_of known.timeline seen }

-- the answer for the row that was found among the others, and what they are afterwards
abbrev pub saw_row : Option Known → List Known → Timeline → Saw
saw_row (Some known) others seen = saw_held known seen
saw_row None others seen = if nat_lt (length others) 64 then New else Full

unfoldable pub saw_other_of : List Known → NodeId → Timeline → Saw
saw_other_of others session seen = saw_row (found_by key_of session others) others seen

abbrev pub known_by : NodeId → Timeline → Known
known_by session seen = record { session = session; timeline = seen }

abbrev pub row_after : Option Known → List Known → NodeId → Timeline → List Known
row_after (Some known) others session seen = updated_by key_of session (held_after seen) others
row_after None others session seen = if nat_lt (length others) 64 then others ++ known_by session seen ∷ [] else others

unfoldable pub others_after : List Known → NodeId → Timeline → List Known
others_after others session seen = row_after (found_by key_of session others) others session seen
