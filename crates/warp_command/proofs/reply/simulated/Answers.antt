use Rattle.warp_command.proofs.Refused.{simulated_of}
use Rattle.warp_command.proofs.reply.simulated.Goals as goal

pub returns-in-Ok : goal.returns-in-Ok
returns-in-Ok g c =
    simulated_of c.args.run.now c.args.given.now.only.text.now c.args.given.now.bench.text.now c.args.given.now.settings.text.now c.args.given.now.stimulus.text.now c.in-Ok.simulated c.answer_of.result
    c.in-Ok.ensures.dump c.in-Ok.ensures.counts c.answer_of.ensures.text c.answer_of.ensures.kept c.answer_of.ensures.fault
