use Rattle.std.proofs.lemmas.Result.{IfOk-weaker}
use Rattle.std.specs.List.{AllZip}
use Rattle.warp_command.specs.App.{compare_shape}
use Rattle.warp_command.specs.Inner.App.{HasRule}
use Rattle.warp_command.proofs.Commands.{with_args}
use Rattle.warp_command.proofs.app.compare_command.Goals as goal

pub returns : goal.returns
returns c =
    let have : AllZip HasRule compare_shape.rules c.in_ok-vec.field-0.items = rw c.in_ok-vec.ensures.items (
      c.scope_option.ensures,
      (
        c.map_option.ensures,
        (
          c.from_option.ensures,
          (
            c.to_option.ensures,
            (
              c.offset_option.ensures,
              (
                c.within_option.ensures,
                (
                  c.at_option.ensures,
                  (
                    c.any_for_x_flag.ensures,
                    (c.list_option.ensures, (c.explain_flag.ensures, (c.expected_argument.ensures, (c.actual_argument.ensures, tt)))),
                  ),
                ),
              ),
            ),
          ),
        ),
      ),
    ) in
    IfOk-weaker c.args-2.result _ _ (λ made adds. with_args _ compare_shape.rules _ made _ c.begun_comparison.ensures have adds) c.args-2.ensures
