-- The words of `live`: those that a simple command of clap takes, which has four options with defaults and a flag.
use Rattle.std.specs.Prelude.{◌≡◌, ◌↔◌, ◌^◌, ℕ, pos, true, List, [], Some, map, codes}
use Rattle.std.specs.String.{string_bytes}
use Rattle.std.specs.declared.alloc.Global.{Global}
use Rattle.std.specs.declared.string.String.{String}
use Rattle.clap.specs.Words.{App, fault_of, matches_of, one_of, with_rule}
use Rattle.link_words.specs.CommandNames.{BeginsBy}
use Rattle.link_words.specs.CommandWords.{Says, bare_app}
use Rattle.link_words.specs.OptionWords.{flag_rule, option_rule}
use Rattle.link_words.specs.declared.live_words.LiveOptions.{LiveOptions}
use Rattle.link_words.specs.declared.command_name.CommandName.TheVariants as name

-- Rule: `live` takes `--events` 1 to 524,288, else 262,144; `--blocks` 0 to 524,288, else 262,144; `--quantum` 0 to 2^40, else 4,000,000;
-- `--group` 0 to 65,535, else 0.
abbrev pub live_app : App
live_app =
    with_rule
    (with_rule
    (with_rule
    (with_rule
    (with_rule
    (bare_app (codes "live"))
    (option_rule (codes "events") 1 524_288 (codes "262144")))
    (option_rule (codes "blocks") 0 524_288 (codes "262144")))
    (option_rule (codes "quantum") 0 (2 ^ 40) (codes "4000000")))
    (option_rule (codes "group") 0 65_535 (codes "0")))
    (flag_rule (codes "record"))

-- the first of the words is `live`
abbrev pub BeginsLive : List (String Global) → Type 0
BeginsLive = BeginsBy name.Live

-- and clap finds no fault in the words behind it
abbrev pub IsLive : List (String Global) → Type 0
IsLive words = BeginsLive words × (fault_of live_app (map string_bytes words) ≡ [])

-- the words are of `live`, with these options
pub record NamesLive (words : List (String Global)) (options : LiveOptions) : Type 0 where
  pub is_live : IsLive words
  pub events_is : Says live_app words (codes "events") options.events
  pub blocks_is : Says live_app words (codes "blocks") options.blocks
  pub quantum_is : (length : ℕ) × Says live_app words (codes "quantum") length × (options.quantum ≡ pos length)
  pub group_is : Says live_app words (codes "group") options.group
  pub record_is : (options.«record» ≡ true) ↔ (one_of (codes "record") (matches_of live_app (map string_bytes words)) ≡ Some (codes "true"))
