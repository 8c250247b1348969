-- One event: what it makes of a node, what is sent, and whether a state is published.
use Rattle.std.specs.Prelude.{ℤ, List, [], ◌++◌}
use Rattle.std.specs.Int.{int_max}
use Rattle.asdp_messages.specs.Reading.{reading_of}
use Rattle.link_node.specs.Event.{EventValue, Rx, Tick, App, Audio, End, SendingValue, moment_of}
use Rattle.link_node.specs.Machine.{Machine}
use Rattle.link_node.specs.Arrival.{arrived, answers_to}
use Rattle.link_node.specs.Broadcast.{broadcast_after, broadcast_in}
use Rattle.link_node.specs.Commits.{app_taken, audio_taken}
use Rattle.link_node.specs.Publishing.{change_in, shown}
use Rattle.link_node.specs.Settling.{held_in, settled, noted}
use Rattle.link_node.specs.Telling.{byes_in}
use Rattle.link_node.specs.Tick.{ticked, pings_of_tick}
use Rattle.link_node.specs.declared.event.Change.{Change}

-- Rule: The moment of a node never falls: an event of an earlier time is taken at the moment before.
abbrev pub at_moment : ℤ → Machine → Machine
at_moment now m = record m { moment = int_max m.moment now }

-- ---- what the event itself does, at its moment

abbrev pub taken : EventValue → Machine → Machine
taken (Rx gate from bytes now) m = arrived gate from (reading_of bytes) m
taken (Tick now) m = ticked m
taken (App commit now) m = app_taken commit m
taken (Audio number commit now) m = audio_taken number commit m
taken (End now) m = m

-- Rule: A commit sends nothing at once.
-- the end says goodbye to all destinations
abbrev pub answers : EventValue → Machine → List SendingValue
answers (Rx gate from bytes now) m = answers_to gate from (reading_of bytes) m
answers (Tick now) m = pings_of_tick m
answers (App commit now) m = []
answers (Audio number commit now) m = []
answers (End now) m = byes_in m

-- ---- and then

-- the node settles, and knows whether there is something new to tell
unfoldable pub before_broadcast : EventValue → Machine → Machine
before_broadcast e m = noted (held_in m) (settled (taken e (at_moment (moment_of e) m)))

-- a broadcast, in ticks alone
abbrev pub broadcast_by : EventValue → Machine → Machine
broadcast_by (Tick now) m = broadcast_after m
broadcast_by (Rx gate from bytes now) m = m
broadcast_by (App commit now) m = m
broadcast_by (Audio number commit now) m = m
broadcast_by (End now) m = m

-- Rule: Alives go out in ticks alone.
abbrev pub alives_by : EventValue → Machine → List SendingValue
alives_by (Tick now) m = broadcast_in m
alives_by (Rx gate from bytes now) m = []
alives_by (App commit now) m = []
alives_by (Audio number commit now) m = []
alives_by (End now) m = []

unfoldable pub before_shown : EventValue → Machine → Machine
before_shown e m = broadcast_by e (before_broadcast e m)

-- ---- the step

-- Rule: What a node becomes, sends and publishes follows from its config, its opening moment and its events alone.
unfoldable pub step_of : Machine → EventValue → Machine
step_of m e = shown (before_shown e m)

unfoldable pub sends_of : Machine → EventValue → List SendingValue
sends_of m e = answers e (at_moment (moment_of e) m) ++ alives_by e (before_broadcast e m)

unfoldable pub change_of : Machine → EventValue → Change
change_of m e = change_in (before_shown e m)
