use Rattle.warp_command.proofs.reply.reply_to.Goals as goal

pub returns-in-Run : goal.returns-in-Run
returns-in-Run g c = rw c.in-Run.is c.reply_to_run.ensures

pub returns-in-Replay : goal.returns-in-Replay
returns-in-Replay g c = rw c.in-Replay.is (rw c.alone-in-Replay.ensures.shown c.reply_to_replay.ensures, c.alone-in-Replay.ensures.kept)

pub returns-in-Check : goal.returns-in-Check
returns-in-Check g c = rw c.in-Check.is (rw c.alone-in-Check.ensures.shown c.reply_to_check.ensures, c.alone-in-Check.ensures.kept)

pub returns-in-Nets : goal.returns-in-Nets
returns-in-Nets g c = rw c.in-Nets.is (rw c.alone-in-Nets.ensures.shown c.reply_to_nets.ensures, c.alone-in-Nets.ensures.kept)

pub returns-in-Compare : goal.returns-in-Compare
returns-in-Compare g c = rw c.in-Compare.is (rw c.alone-in-Compare.ensures.shown c.reply_to_compare.ensures, c.alone-in-Compare.ensures.kept)
