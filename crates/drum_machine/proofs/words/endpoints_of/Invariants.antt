use Rattle.std.proofs.Common.{◌≡◌, map, take, All}
use Rattle.std.specs.String.{string_bytes}
use Rattle.arrayvec.specs.ArrayVec.{array_vec_len}
use Rattle.lk_base.specs.Endpoint.{IsEndpoint}
use Rattle.link_lines.specs.Words.{endpoint_text_of}
use Rattle.drum_machine.proofs.words.endpoints_of.Given as goal

abbrev pub invariant-loop-word : goal.invariant-loop-word
invariant-loop-word l = record {
  said : map string_bytes (take l.word-index l.words) ≡ map endpoint_text_of l.peers.items;
  each : All IsEndpoint l.peers.items;
  len : array_vec_len l.peers ≡ l.word-index;
}
