use Rattle.warp_part.specs.Portion.{hears}
use Rattle.warp_process.proofs.Hearing.{found_named}
use Rattle.warp_process.proofs.heard.Heard.hearing.Goals as goal

pub returns-clause-named : goal.returns-clause-named
returns-clause-named c = rw (← c.self.view_is) (found_named c.self.inside.part.nets (hears c.self.inside.part c.args.message.net) c.args.message.net c.hearing.result c.hearing.ensures)
