use Rattle.warp_command.proofs.Lines.{number_tried}
use Rattle.warp_command.proofs.comparison.time_of.Goals as goal

pub returns-in-Ok : goal.returns-in-Ok
returns-in-Ok c = number_tried 64 _ _ c.try_get_one.result c.in-Ok.time c.in-Ok.is c.try_get_one.ensures.none c.try_get_one.ensures.value
