use Rattle.warp_command.proofs.Refused.{plain_of}
use Rattle.warp_command.proofs.reply.plain.Goals as goal

pub returns-in-Ok : goal.returns-in-Ok
returns-in-Ok g c =
    plain_of c.args.run.now c.args.given.now.only.text.now c.args.given.now.bench.text.now c.args.given.now.settings.text.now c.args.given.now.stimulus.text.now c.in-Ok.text
    c.requires.all c.requires.kept c.in-Ok.ensures
