use Rattle.std.proofs.Common.{rules, codes}
use Rattle.std.proofs.lemmas.Result.{IfOk-weaker}
use Rattle.std.specs.List.{AllZip}
use Rattle.clap.specs.Words.{new_app}
use Rattle.warp_command.specs.App.{check_shape}
use Rattle.warp_command.specs.Inner.App.{HasApp, HasRule}
use Rattle.warp_command.proofs.Commands.{with_args}
use Rattle.warp_command.proofs.app.check_command.Goals as goal

pub returns : goal.returns
returns c =
    let named = c.new.ensures in
    let about = c.about.ensures in
    let begun : HasApp (new_app (codes "check")) c.about.result = search rules in
    let have : AllZip HasRule check_shape.rules c.in_ok-vec.field-0.items = rw c.in_ok-vec.ensures.items
    (c.settings_option.ensures, (c.explain_flag.ensures, (c.bench_argument.ensures, tt))) in
    IfOk-weaker c.args-2.result _ _ (λ made adds. with_args _ check_shape.rules _ made _ begun have adds) c.args-2.ensures
