use Rattle.warp_command.proofs.Lines.{number_given}
use Rattle.warp_command.proofs.line.until_of.Goals as goal

pub returns-in-Some : goal.returns-in-Some
returns-in-Some c = number_given 64 _ _ c.get_one.result c.in-Some.until c.in-Some.is c.get_one.ensures.none c.get_one.ensures.value
