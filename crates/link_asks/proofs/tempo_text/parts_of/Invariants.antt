use Rattle.std.proofs.Common.{◌≡◌, ◌<◌, take}
use Rattle.std.specs.Str.Parse.{AllDigits, digits_value}
use Rattle.link_asks.proofs.tempo_text.parts_of.Given as goal

abbrev pub invariant-loop-byte : goal.invariant-loop-byte
invariant-loop-byte l = record {
  digits : AllDigits 10 (take l.byte-index l.places);
  value : digits_value 10 (take l.byte-index l.places) ≡ l.value;
  small : l.value < 1_000_000;
}
