use Rattle.std.proofs.Common.{ap}
use Rattle.warp_rounds.proofs.Resting.{visits, visits_faulty}
use Rattle.warp_rounds.proofs.site.Held.turn.Goals as goal

pub returns-in-Ok-clause-visit : goal.returns-in-Ok-clause-visit
returns-in-Ok-clause-visit g c =
    visits c.args.self.now.block c.turn_from-turned.new.block c.as_slice-messages.result.now c.args.self.now.messages.items c.args.floor c.args.most
    c.window-window.result c.args.out.now.items c.turn_from-turned.new.out.items c.in-Ok.turned.report.least c.noted.result.report.least
    c.as_slice-messages.ensures.value (ap (λ r. r.least) c.noted.ensures.report) c.law.ensures c.window-window.ensures
    c.in-Ok.ensures.turn c.turn_from-turned.ensures.sends c.in-Ok.ensures.least

pub returns-in-Err-clause-fault : goal.returns-in-Err-clause-fault
returns-in-Err-clause-fault g c =
    visits_faulty c.args.self.now.block c.turn_from-turned.new.block c.as_slice-messages.result.now c.args.self.now.messages.items c.args.floor c.args.most
    c.window-window.result c.args.out.now.items c.turn_from-turned.new.out.items c.in-Err.fault
    c.as_slice-messages.ensures.value c.law.ensures c.window-window.ensures c.in-Err.ensures.fault c.turn_from-turned.ensures.sends
