-- The words of `control`: those that a simple command of clap takes, which has a value and three options with defaults.
use Rattle.std.specs.Prelude.{◌≡◌, ◌^◌, ℕ, pos, true, List, [], Some, map, codes}
use Rattle.std.specs.String.{string_bytes}
use Rattle.std.specs.declared.alloc.Global.{Global}
use Rattle.std.specs.declared.string.String.{String}
use Rattle.clap.specs.Words.{App, Rule, fault_of, matches_of, new_rule, one_of, with_rule}
use Rattle.clap.specs.declared.builder.action.ArgAction.TheVariants.{Set}
use Rattle.lk_base.specs.Endpoint.{IsEndpoint}
use Rattle.lk_base.specs.declared.endpoint.Endpoint.{Endpoint}
use Rattle.link_lines.specs.Words.{endpoint_text_of}
use Rattle.link_words.specs.CommandNames.{BeginsBy}
use Rattle.link_words.specs.CommandWords.{Says, bare_app}
use Rattle.link_words.specs.OptionWords.{option_rule}
use Rattle.link_words.specs.declared.control_words.ControlOptions.{ControlOptions}
use Rattle.link_words.specs.declared.command_name.CommandName.TheVariants as name

-- a value that is needed, any text
abbrev pub text_rule : List ℕ → Rule
text_rule id = record (new_rule id) { action = Some Set; required = true }

-- Rule: `control` takes an endpoint and the options `--events`, `--quantum` and `--group` of `live`.
abbrev pub control_app : App
control_app =
    with_rule
    (with_rule
    (with_rule
    (with_rule
    (bare_app (codes "control"))
    (text_rule (codes "ENDPOINT")))
    (option_rule (codes "events") 1 524_288 (codes "262144")))
    (option_rule (codes "quantum") 0 (2 ^ 40) (codes "4000000")))
    (option_rule (codes "group") 0 65_535 (codes "0"))

-- the first of the words is `control`
abbrev pub BeginsControl : List (String Global) → Type 0
BeginsControl = BeginsBy name.Control

-- the value among the words is the text of this endpoint
pub record SaysEndpoint (words : List (String Global)) (at : Endpoint) : Type 0 where
  pub range : IsEndpoint at
  pub said : one_of (codes "ENDPOINT") (matches_of control_app (map string_bytes words)) ≡ Some (endpoint_text_of at)

-- clap finds no fault in the words behind it, and the value is an endpoint
pub record IsControl (words : List (String Global)) : Type 0 where
  pub begins : BeginsControl words
  pub no_fault : fault_of control_app (map string_bytes words) ≡ []
  pub at : Endpoint
  pub says : SaysEndpoint words at

-- the words are of `control`, with these options
pub record NamesControl (words : List (String Global)) (options : ControlOptions) : Type 0 where
  pub is_control : IsControl words
  pub at_is : SaysEndpoint words options.at
  pub events_is : Says control_app words (codes "events") options.events
  pub quantum_is : (length : ℕ) × Says control_app words (codes "quantum") length × (options.quantum ≡ pos length)
  pub group_is : Says control_app words (codes "group") options.group
