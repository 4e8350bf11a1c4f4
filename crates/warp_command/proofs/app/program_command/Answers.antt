use Rattle.std.proofs.Common.{rules, codes, true}
use Rattle.std.proofs.lemmas.Result.{IfOk-weaker}
use Rattle.clap.specs.Words.{App, new_app}
use Rattle.warp_command.specs.App.{program_app}
use Rattle.warp_command.specs.Inner.App.{HasApp}
use Rattle.warp_command.proofs.Commands.{with_command}
use Rattle.warp_command.proofs.app.program_command.Goals as goal

abbrev bare : App
bare = record (new_app (codes "warp_sim")) {
  top = record (new_app (codes "warp_sim")).top {
    has_version = true;
    arg_required_else_help = true;
    subcommand_required = true;
  };
}

pub returns : goal.returns
unfolding program_app
returns c =
    let begun : HasApp bare c.arg_required_else_help.result = search rules in
    let run = with_command _ _ _ _ _ begun c.in_ok-run_command.ensures c.in_ok-subcommand.ensures in
    let replay = with_command _ _ _ _ _ run c.in_ok-replay_command.ensures c.in_ok-subcommand-2.ensures in
    let check = with_command _ _ _ _ _ replay c.in_ok-check_command.ensures c.in_ok-subcommand-3.ensures in
    let nets = with_command _ _ _ _ _ check c.in_ok-nets_command.ensures c.in_ok-subcommand-4.ensures in
    IfOk-weaker c.subcommand-5.result _ _ (λ made adds. with_command _ _ _ made _ nets c.in_ok-compare_command.ensures adds) c.subcommand-5.ensures
