-- The command of clap that reads the words of `control`.
use Rattle.std.specs.Prelude.{◌≡◌, ◌^◌, false, [], ◌∷◌, codes}
use Rattle.clap.specs.Words.{IsPlain, app_of, args_of}
use Rattle.clap.specs.declared.builder.arg.Arg.{Arg}
use Rattle.clap.specs.declared.builder.command.Command.{Command}
use Rattle.clap.specs.declared.builder.command.Command.TheViews.{out-Command}
use Rattle.link_words.specs.ControlWords.{control_app}
use Rattle.link_words.specs.OptionWords.{IsLocalArg, IsOptionArg}

-- the endpoint and the three options, and nothing else
pub record IsControlCommand (c : Command) : Type 0 where
  pub app : app_of c ≡ control_app
  pub at : Arg
  pub events : Arg
  pub quantum : Arg
  pub group : Arg
  pub args : args_of c ≡ at ∷ events ∷ quantum ∷ group ∷ []
  pub at_is : IsLocalArg at (codes "ENDPOINT")
  pub events_is : IsOptionArg events (codes "events") 1 524_288
  pub quantum_is : IsOptionArg quantum (codes "quantum") 0 (2 ^ 40)
  pub group_is : IsOptionArg group (codes "group") 0 65_535
  pub plain : IsPlain c
  pub local : (out-Command c).has_globals ≡ false
