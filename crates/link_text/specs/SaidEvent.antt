-- Only for proofs: an event as its line says it.
use Rattle.std.specs.Prelude.{ℕ, List}
use Rattle.link_node.specs.Event.{EventValue, Rx, Tick, App, Audio, End}
use Rattle.link_text.specs.HexWord.{IsHexWord, hex_bytes}
use Rattle.link_text.specs.declared.said_event.SaidEvent.{SaidEvent}
use Rattle.link_text.specs.declared.said_event.SaidEvent.TheVariants as said

abbrev pub said_value : SaidEvent → EventValue
said_value (said.Rx gate from hex now) = Rx gate from (hex_bytes hex.now) now
said_value (said.Tick now) = Tick now
said_value (said.App commit now) = App commit now
said_value (said.Audio number commit now) = Audio number commit now
said_value (said.End now) = End now

-- what stands for the bytes of a datagram says some
abbrev pub HasHex : SaidEvent → Type 0
HasHex (said.Rx gate from hex now) = IsHexWord hex.now
HasHex (said.Tick now) = Unit {0}
HasHex (said.App commit now) = Unit {0}
HasHex (said.Audio number commit now) = Unit {0}
HasHex (said.End now) = Unit {0}
