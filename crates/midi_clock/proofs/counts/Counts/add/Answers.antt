use Rattle.std.proofs.Common.{refl, arith}
use Rattle.link_midi.specs.Messages.{is_clock_message}
use Rattle.link_midi.specs.declared.message.MidiMessage.TheVariants.{Clock, Start, Continue, Stop, Position}
use Rattle.midi_clock.specs.Sent.{is_continue_message, is_start_message, is_stop_message}
use Rattle.midi_clock.proofs.SentLemmas.{counted}
use Rattle.midi_clock.proofs.counts.Counts.add.Goals as goal

pub returns-in-Clock : goal.returns-in-Clock
unfolding is_clock_message is_start_message is_continue_message is_stop_message
returns-in-Clock c = counted c.args.event.now Clock c.args.self.now _ c.in-Clock.is refl (omega arith) (omega arith) (omega arith)

pub returns-in-Start : goal.returns-in-Start
unfolding is_clock_message is_start_message is_continue_message is_stop_message
returns-in-Start c = counted c.args.event.now Start c.args.self.now _ c.in-Start.is (omega arith) refl (omega arith) (omega arith)

pub returns-in-Continue : goal.returns-in-Continue
unfolding is_clock_message is_start_message is_continue_message is_stop_message
returns-in-Continue c = counted c.args.event.now Continue c.args.self.now _ c.in-Continue.is (omega arith) (omega arith) refl (omega arith)

pub returns-in-Stop : goal.returns-in-Stop
unfolding is_clock_message is_start_message is_continue_message is_stop_message
returns-in-Stop c = counted c.args.event.now Stop c.args.self.now _ c.in-Stop.is (omega arith) (omega arith) (omega arith) refl

pub returns-in-Position : goal.returns-in-Position
unfolding is_clock_message is_start_message is_continue_message is_stop_message
returns-in-Position c = counted c.args.event.now (Position _) c.args.self.now _ c.in-Position.is (omega arith) (omega arith) (omega arith) (omega arith)
