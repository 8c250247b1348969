-- The command of `live`, and what clap reads by it.
use Rattle.std.proofs.Common.{◌≡◌, ◌^◌, [], ◌∷◌, codes, refl, arith}
use Rattle.std.specs.List.{IsDistinct}
use Rattle.clap.specs.Words.{IsParsedFrom, rule_of}
use Rattle.clap.specs.Built.{AddsArg}
use Rattle.clap.specs.declared.builder.arg.Arg.{Arg}
use Rattle.clap.specs.declared.builder.command.Command.{Command}
use Rattle.clap.specs.declared.parser.matches.ArgMatches.{ArgMatches}
use Rattle.link_words.specs.CommandWords.{HasNumber, IsBare}
use Rattle.link_words.specs.LiveCommand.{IsLiveCommand}
use Rattle.link_words.specs.OptionWords.{IsLocalArg, IsOptionArg, flag_rule, option_rule}
use Rattle.link_words.proofs.CommandWordLemmas.{none_yet, one_more, same_id}
use Rattle.link_words.proofs.OptionLemmas.{local_added, option_added, option_read}

module _ (c : Command) (m : ArgMatches) (is : IsLiveCommand c) (p : IsParsedFrom c m) where
  -- the five names differ
  distinct : IsDistinct same_id (is.events ∷ is.blocks ∷ is.quantum ∷ is.group ∷ is.flag ∷ [])
  unfolding IsDistinct
  distinct = rw (is.events_is.id_is, is.blocks_is.id_is, is.quantum_is.id_is, is.group_is.id_is, is.flag_is.id_is)
      ((refl, (refl, (refl, (refl, tt)))), ((refl, (refl, (refl, tt))), ((refl, (refl, tt)), ((refl, tt), (tt, tt)))))

  pub events_read : HasNumber m (codes "events") 1 524_288
  events_read = option_read c m p is.plain is.local _ is.args distinct 0 is.events (codes "events") 1 524_288 (omega arith) refl is.events_is
      (omega arith) (λ e. omega (arith, e)) (λ e. omega (arith, e))

  pub blocks_read : HasNumber m (codes "blocks") 0 524_288
  blocks_read = option_read c m p is.plain is.local _ is.args distinct 1 is.blocks (codes "blocks") 0 524_288 (omega arith) refl is.blocks_is
      (omega arith) (λ e. omega (arith, e)) (λ e. omega (arith, e))

  pub quantum_read : HasNumber m (codes "quantum") 0 (2 ^ 40)
  quantum_read = option_read c m p is.plain is.local _ is.args distinct 2 is.quantum (codes "quantum") 0 (2 ^ 40) (omega arith) refl is.quantum_is
      (omega arith) (λ e. omega (arith, e)) (λ e. omega (arith, e))

  pub group_read : HasNumber m (codes "group") 0 65_535
  group_read = option_read c m p is.plain is.local _ is.args distinct 3 is.group (codes "group") 0 65_535 (omega arith) refl is.group_is
      (omega arith) (λ e. omega (arith, e)) (λ e. omega (arith, e))

-- the options and the flag are added
pub whole_command : (bare one two three four end : Command) (events blocks quantum group flag : Arg) → IsBare (codes "live") bare
    → AddsArg bare events one → AddsArg one blocks two → AddsArg two quantum three → AddsArg three group four → AddsArg four flag end
    → rule_of events ≡ option_rule (codes "events") 1 524_288 (codes "262144") → IsOptionArg events (codes "events") 1 524_288
    → rule_of blocks ≡ option_rule (codes "blocks") 0 524_288 (codes "262144") → IsOptionArg blocks (codes "blocks") 0 524_288
    → rule_of quantum ≡ option_rule (codes "quantum") 0 (2 ^ 40) (codes "4000000") → IsOptionArg quantum (codes "quantum") 0 (2 ^ 40)
    → rule_of group ≡ option_rule (codes "group") 0 65_535 (codes "0") → IsOptionArg group (codes "group") 0 65_535
    → rule_of flag ≡ flag_rule (codes "record") → IsLocalArg flag (codes "record")
    → IsLiveCommand end
whole_command bare one two three four end events blocks quantum group flag start to_one to_two to_three to_four to_end
    events_rule events_is blocks_rule blocks_is quantum_rule quantum_is group_rule group_is record_rule flag_is =
    let with_events = one_more _ _ bare one events _ (none_yet (codes "live") bare start) to_one events_rule events_is.plain events_is.local in
    let with_blocks = one_more _ _ one two blocks _ with_events to_two blocks_rule blocks_is.plain blocks_is.local in
    let with_quantum = one_more _ _ two three quantum _ with_blocks to_three quantum_rule quantum_is.plain quantum_is.local in
    let with_group = one_more _ _ three four group _ with_quantum to_four group_rule group_is.plain group_is.local in
    let whole = one_more _ _ four end flag _ with_group to_end record_rule flag_is.plain flag_is.local in record {
      app = whole.app;
      events = to_one.arg;
      blocks = to_two.arg;
      quantum = to_three.arg;
      group = to_four.arg;
      flag = to_end.arg;
      args = whole.args;
      events_is = option_added events to_one.arg (codes "events") 1 524_288 to_one.rules events_is;
      blocks_is = option_added blocks to_two.arg (codes "blocks") 0 524_288 to_two.rules blocks_is;
      quantum_is = option_added quantum to_three.arg (codes "quantum") 0 (2 ^ 40) to_three.rules quantum_is;
      group_is = option_added group to_four.arg (codes "group") 0 65_535 to_four.rules group_is;
      flag_is = local_added flag to_end.arg (codes "record") to_end.rules flag_is;
      plain = whole.plain;
      local = whole.local;
    }
