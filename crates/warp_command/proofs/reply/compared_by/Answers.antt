use Rattle.warp_command.proofs.reply.compared_by.Goals as goal

pub returns-in-Some : goal.returns-in-Some
returns-in-Some g c = rw c.in-Some.is c.compared_with.ensures
