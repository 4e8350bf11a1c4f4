use Rattle.warp_command.proofs.reply.run_sources.Goals as goal

pub returns-in-Joined : goal.returns-in-Joined
returns-in-Joined g c = rw c.in-Joined.is c.run_joined.ensures

pub returns-in-Apart : goal.returns-in-Apart
returns-in-Apart g c = rw c.in-Apart.is c.run_apart.ensures
