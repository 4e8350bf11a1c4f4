-- What a command has after more arguments, or one more command below it.
use Rattle.std.proofs.Common.{◌≡◌, ◌∙◌, ◌||◌, Bool, List, [], ◌∷◌, false, ap, ap₂, subst}
use Rattle.std.specs.Prelude.{fold}
use Rattle.std.specs.List.{AllZip}
use Rattle.clap.specs.Words.{AddsArg, AddsInTurn, AddsSubcommand, App, Rule, Shape, app_of, shape_of, rule_of, with_rule, with_subcommand}
use Rattle.clap.specs.declared.builder.arg.Arg.{Arg}
use Rattle.clap.specs.declared.builder.command.Command.{Command}
use Rattle.warp_command.specs.Inner.App.{HasApp, HasRule, HasShape}

with_arg : (app : App) (rule : Rule) (old new : Command) (arg : Arg) → HasApp app old → HasRule rule arg → AddsArg old arg new → HasApp (with_rule app rule) new
with_arg app rule old new arg has fits adds = record {
  app_is = adds.shape fits.local ∙ ap₂ with_rule has.app_is fits.rule_is;
  local = adds.globals ∙ ap₂ (λ (a b : Bool). a || b) has.local fits.local;
}

pub with_args : (app : App) (rules : List Rule) (old new : Command) (args : List Arg) → HasApp app old → AllZip HasRule rules args → AddsInTurn AddsArg old args new
    → HasApp (fold with_rule app rules) new
with_args app [] old new [] has fits adds = subst (HasApp app) adds has
with_args app [] old new (arg ∷ args) has fits adds = elim fits [ ]
with_args app (rule ∷ rules) old new [] has fits adds = elim fits [ ]
with_args app (rule ∷ rules) old new (arg ∷ args) has fits adds =
    with_args (with_rule app rule) rules adds.0 new args (with_arg app rule old adds.0 arg has fits.0 adds.1) fits.1 adds.2

pub with_command : (app : App) (shape : Shape) (old new below : Command) → HasApp app old → HasShape shape below → AddsSubcommand old below new
    → HasApp (with_subcommand app shape) new
with_command app shape old new below has fits adds = record {
  app_is = adds.shape fits.local ∙ ap₂ with_subcommand has.app_is (ap (λ (a : App). a.top) fits.app_is);
  local = adds.globals ∙ ap₂ (λ (a b : Bool). a || b) has.local fits.local;
}
