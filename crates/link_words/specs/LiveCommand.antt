-- The command of clap that reads the words of `live`.
use Rattle.std.specs.Prelude.{◌≡◌, ◌^◌, false, [], ◌∷◌, codes}
use Rattle.clap.specs.Words.{IsPlain, app_of, args_of}
use Rattle.clap.specs.declared.builder.arg.Arg.{Arg}
use Rattle.clap.specs.declared.builder.command.Command.{Command}
use Rattle.clap.specs.declared.builder.command.Command.TheViews.{out-Command}
use Rattle.link_words.specs.LiveWords.{live_app}
use Rattle.link_words.specs.OptionWords.{IsLocalArg, IsOptionArg}

-- the four options and the flag, and nothing else
pub record IsLiveCommand (c : Command) : Type 0 where
  pub app : app_of c ≡ live_app
  pub events : Arg
  pub blocks : Arg
  pub quantum : Arg
  pub group : Arg
  pub flag : Arg
  pub args : args_of c ≡ events ∷ blocks ∷ quantum ∷ group ∷ flag ∷ []
  pub events_is : IsOptionArg events (codes "events") 1 524_288
  pub blocks_is : IsOptionArg blocks (codes "blocks") 0 524_288
  pub quantum_is : IsOptionArg quantum (codes "quantum") 0 (2 ^ 40)
  pub group_is : IsOptionArg group (codes "group") 0 65_535
  pub flag_is : IsLocalArg flag (codes "record")
  pub plain : IsPlain c
  pub local : (out-Command c).has_globals ≡ false
