-- What is built of the program's commands.
use Rattle.std.specs.Prelude.{◌≡◌, [], false}
use Rattle.clap.specs.Words.{App, Rule, Shape, app_of, rule_of}
use Rattle.clap.specs.declared.builder.arg.Arg.{Arg}
use Rattle.clap.specs.declared.builder.command.Command.{Command}
use Rattle.clap.specs.declared.builder.command.Command.TheViews.{out-Command}

-- an argument with this rule, for its command alone
pub record HasRule (rule : Rule) (arg : Arg) : Type 0 where
  pub rule_is : rule_of arg ≡ rule
  pub local : arg.global ≡ false

-- a command like this, all of whose arguments are for it alone
pub record HasApp (app : App) (command : Command) : Type 0 where
  pub app_is : app_of command ≡ app
  pub local : (out-Command command).has_globals ≡ false

abbrev pub HasShape : Shape → Command → Type 0
HasShape shape command = HasApp (record { top = shape; subs = [] }) command
