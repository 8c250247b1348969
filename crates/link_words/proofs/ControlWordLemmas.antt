-- The command of `control`, and what clap reads by it.
use Rattle.std.proofs.Common.{◌≡◌, ◌^◌, [], ◌∷◌, codes, refl, arith}
use Rattle.std.specs.List.{IsDistinct}
use Rattle.clap.specs.Words.{IsParsedFrom, rule_of}
use Rattle.clap.specs.Built.{AddsArg}
use Rattle.clap.specs.declared.builder.arg.Arg.{Arg}
use Rattle.clap.specs.declared.builder.command.Command.{Command}
use Rattle.clap.specs.declared.parser.matches.ArgMatches.{ArgMatches}
use Rattle.link_words.specs.CommandWords.{HasNumber, IsBare}
use Rattle.link_words.specs.ControlCommand.{IsControlCommand}
use Rattle.link_words.specs.ControlWords.{text_rule}
use Rattle.link_words.specs.OptionWords.{IsLocalArg, IsOptionArg, option_rule}
use Rattle.link_words.proofs.CommandWordLemmas.{none_yet, one_more, same_id}
use Rattle.link_words.proofs.OptionLemmas.{local_added, option_added, option_read}

module _ (c : Command) (m : ArgMatches) (is : IsControlCommand c) (p : IsParsedFrom c m) where
  -- the four names differ
  distinct : IsDistinct same_id (is.at ∷ is.events ∷ is.quantum ∷ is.group ∷ [])
  unfolding IsDistinct
  distinct = rw (is.at_is.id_is, is.events_is.id_is, is.quantum_is.id_is, is.group_is.id_is)
      ((refl, (refl, (refl, tt))), ((refl, (refl, tt)), ((refl, tt), (tt, tt))))

  pub events_read : HasNumber m (codes "events") 1 524_288
  events_read = option_read c m p is.plain is.local _ is.args distinct 1 is.events (codes "events") 1 524_288 (omega arith) refl is.events_is
      (omega arith) (λ e. omega (arith, e)) (λ e. omega (arith, e))

  pub quantum_read : HasNumber m (codes "quantum") 0 (2 ^ 40)
  quantum_read = option_read c m p is.plain is.local _ is.args distinct 2 is.quantum (codes "quantum") 0 (2 ^ 40) (omega arith) refl is.quantum_is
      (omega arith) (λ e. omega (arith, e)) (λ e. omega (arith, e))

  pub group_read : HasNumber m (codes "group") 0 65_535
  group_read = option_read c m p is.plain is.local _ is.args distinct 3 is.group (codes "group") 0 65_535 (omega arith) refl is.group_is
      (omega arith) (λ e. omega (arith, e)) (λ e. omega (arith, e))

-- the endpoint and the options are added
pub whole_command : (bare one two three end : Command) (at events quantum group : Arg) → IsBare (codes "control") bare
    → AddsArg bare at one → AddsArg one events two → AddsArg two quantum three → AddsArg three group end
    → rule_of at ≡ text_rule (codes "ENDPOINT") → IsLocalArg at (codes "ENDPOINT")
    → rule_of events ≡ option_rule (codes "events") 1 524_288 (codes "262144") → IsOptionArg events (codes "events") 1 524_288
    → rule_of quantum ≡ option_rule (codes "quantum") 0 (2 ^ 40) (codes "4000000") → IsOptionArg quantum (codes "quantum") 0 (2 ^ 40)
    → rule_of group ≡ option_rule (codes "group") 0 65_535 (codes "0") → IsOptionArg group (codes "group") 0 65_535
    → IsControlCommand end
whole_command bare one two three end at events quantum group start to_one to_two to_three to_end
    at_rule at_is events_rule events_is quantum_rule quantum_is group_rule group_is =
    let with_at = one_more _ _ bare one at _ (none_yet (codes "control") bare start) to_one at_rule at_is.plain at_is.local in
    let with_events = one_more _ _ one two events _ with_at to_two events_rule events_is.plain events_is.local in
    let with_quantum = one_more _ _ two three quantum _ with_events to_three quantum_rule quantum_is.plain quantum_is.local in
    let whole = one_more _ _ three end group _ with_quantum to_end group_rule group_is.plain group_is.local in record {
      app = whole.app;
      at = to_one.arg;
      events = to_two.arg;
      quantum = to_three.arg;
      group = to_end.arg;
      args = whole.args;
      at_is = local_added at to_one.arg (codes "ENDPOINT") to_one.rules at_is;
      events_is = option_added events to_two.arg (codes "events") 1 524_288 to_two.rules events_is;
      quantum_is = option_added quantum to_three.arg (codes "quantum") 0 (2 ^ 40) to_three.rules quantum_is;
      group_is = option_added group to_end.arg (codes "group") 0 65_535 to_end.rules group_is;
      plain = whole.plain;
      local = whole.local;
    }
