use Rattle.warp_command.proofs.Lines.{asked, shown}
use Rattle.warp_command.proofs.line.read_line.Goals as goal

pub returns-in-Ok : goal.returns-in-Ok
returns-in-Ok g c = asked _ _ c.in-Ok.matches _ c.in_ok-command.ensures.app_is c.in-Ok.ensures.matches c.in-Ok.ensures.kinds c.request_of.ensures

pub returns-in-Err : goal.returns-in-Err
returns-in-Err g c = shown _ _ _ _ c.in_ok-command.ensures.app_is c.in-Err.ensures.kinds c.told.ensures
